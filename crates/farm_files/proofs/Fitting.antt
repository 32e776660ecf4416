-- The grids of raster files fit their rasters.
use Rattle.std.proofs.Common.{◌≡◌, ℕ, List, [], ◌∷◌, Bool, true, false, refl, sym, ap, subst, ◌∙◌}
use Rattle.std.specs.Prelude.{Result, Ok, Err, if◌then◌else◌, nat_le, ◌&&◌, ◌==◌}
use Rattle.std.specs.Str.{bytes_eq}
use Rattle.std.proofs.lemmas.Bool.Decides.{Decides-eqb}
use Rattle.std.proofs.lemmas.Slice.Eq.{bytes_eq-Decides}
use Rattle.std.proofs.lemmas.Bool.{and_from}
use Rattle.plain_shapes.specs.Images.{Pixels}
use Rattle.plain_drawing.specs.Grids.{Grid}
use Rattle.plain_drawing.specs.Styles.{RasterRef, grid_matches, grids_match}
use Rattle.plain_image.specs.PpmText.{ppm_of}
use Rattle.plain_image.specs.declared.reading.PpmFault.{PpmFault}
use Rattle.raster_layers.specs.Scales.{grid_or_fault}
use Rattle.raster_layers.specs.declared.grids.GridFault.{GridFault}
use Rattle.raster_layers.specs.declared.grids.GridFault.TheVariants.{Size}
use Rattle.exit_status.specs.RasterFaults.{ppm_text, grid_text}
use Rattle.exit_status.specs.Ends.{FilesAt}
use Rattle.exit_status.specs.declared.stops.Stop.{Stop}
use Rattle.farm_files.specs.Course.{Course, made, reads, ◌>>=◌, judged, file, each}
use Rattle.farm_files.specs.inner.Follows.{Follows, Says, Tells}
use Rattle.farm_files.proofs.Courses.{ended, Could, could_parts, followed_could}
use Rattle.farm_files.proofs.Judged.{file_checked, file_stops}
use Rattle.farm_files.specs.MapCourses.{grid_with, raster_course, raster_course_by}
use Rattle.farm_files.specs.inner.Rasters.{as_raster, after_ppm, raster_in, raster_text}
use Rattle.farm_files.specs.declared.rasters.RasterFault.{RasterFault}

-- ---- a grid fits its raster

chosen : (b : Bool) (g h : Grid) → as_raster (if b then Ok g else Err Size) ≡ Ok h → g ≡ h
chosen true g h e = cc
chosen false g h e = absurd (cc)

with_matches : (r : RasterRef) (image : Pixels) → grid_matches r (grid_with r image) ≡ true
with_matches r image = all_four (bytes_eq r.name r.name) (r.west == r.west) (r.north == r.north) (r.pixel == r.pixel)
    ((bytes_eq-Decides r.name r.name).1 refl) ((Decides-eqb r.west r.west).1 refl) ((Decides-eqb r.north r.north).1 refl) ((Decides-eqb r.pixel r.pixel).1 refl)
  where
    all_four : (a b c d : Bool) → a ≡ true → b ≡ true → c ≡ true → d ≡ true → (a && b && c && d) ≡ true
    all_four a b c d ea eb ec ed = rw (ea, eb, ec, ed) refl

after_matches : (r : RasterRef) (says : Result Pixels PpmFault) (g : Grid) → after_ppm r says ≡ Ok g → grid_matches r g ≡ true
after_matches r (Ok image) g e =
    let same = chosen (nat_le image.cols 1024 && nat_le image.rows 1024) (grid_with r image) g e in
    ap (grid_matches r) (sym same) ∙ with_matches r image
after_matches r (Err f) g e = absurd (cc)

judged_could : (name : List ℕ) (says : Result Grid RasterFault) (g : Grid) → Could (judged raster_text name says) g → says ≡ Ok g
judged_could name (Ok h) g could = ap Ok (sym could)
judged_could name (Err f) g could = absurd could

-- the picture is judged, and then the grid; or both in one
judged_same : (r : RasterRef) (name : List ℕ) (says : Result Pixels PpmFault)
    → (judged ppm_text name says >>= λ image. judged grid_text name (grid_or_fault (grid_with r image))) ≡ judged raster_text name (after_ppm r says)
judged_same r name (Ok image) = by_grid (grid_or_fault (grid_with r image))
  where
    by_grid : (g : Result Grid GridFault) → judged grid_text name g ≡ judged raster_text name (as_raster g)
    by_grid (Ok h) = refl
    by_grid (Err f) = refl
judged_same r name (Err f) = refl

course_same : (r : RasterRef) → raster_course r ≡ file (raster_in r) raster_text r.file
unfolding raster_course_by file
course_same r = λ i. reads r.file (λ bytes. judged_same r r.file (ppm_of bytes) i)

file_fits : (r : RasterRef) (g : Grid) → Could (file (raster_in r) raster_text r.file) g → grid_matches r g ≡ true
unfolding file
file_fits r g could = after_matches r (ppm_of could.0) g (judged_could r.file (raster_in r could.0) g could.1)

raster_fits : (r : RasterRef) (g : Grid) → Could (raster_course r) g → grid_matches r g ≡ true
raster_fits r g could = file_fits r g (subst (λ (c : Course Grid). Could c g) (course_same r) could)

grids_fit : (rs : List RasterRef) (all : List Grid) → Could (each raster_course rs) all → grids_match rs all ≡ true
grids_fit [] all could = ap (grids_match []) could
grids_fit (r ∷ rs) all could =
    let first = could_parts (raster_course r) (λ y. each raster_course rs >>= λ ys. made (y ∷ ys)) all could in
    let rest = could_parts (each raster_course rs) (λ ys. made (first.0 ∷ ys)) all first.2 in
    ap (grids_match (r ∷ rs)) rest.2 ∙ and_from (grid_matches r first.0) (grids_match rs rest.0) (raster_fits r first.0 first.1) (grids_fit rs rest.0 rest.1)

-- the grids that were read fit their rasters
pub grids_bound : (rs items : List RasterRef) (old new : FilesAt) (all : List Grid) → items ≡ rs → Follows (each raster_course items) old new (Ok all) → grids_match rs all ≡ true
grids_bound rs items old new all is h = ap (λ (x : List RasterRef). grids_match x all) (sym is) ∙ grids_fit items all (followed_could (each raster_course items) old new all h)

-- a raster's file is read by its name
pub raster_checked : (r : RasterRef) (name bytes slice : List ℕ) (old new : FilesAt) (read : Result Grid RasterFault) (result : Result Grid Stop) → name ≡ r.file
    → Follows (reads name made) old new (Ok bytes) → slice ≡ bytes → Tells raster_text (raster_in r slice) read
    → ((means : Result Grid RasterFault) → Tells raster_text means read → Says (judged raster_text name means) result) → Follows (raster_course r) old new result
raster_checked r name bytes slice old new read result is h same tells says =
    subst (λ (c : Course Grid). Follows c old new result) (sym (course_same r))
    (subst (λ (n : List ℕ). Follows (file (raster_in r) raster_text n) old new result) is
    (file_checked (raster_in r) raster_text name bytes slice old new read result h same tells says))

-- the read of a raster's file came to an early end
pub raster_stops : (r : RasterRef) (name : List ℕ) (old new : FilesAt) (s : Stop) → name ≡ r.file → Follows (reads name made) old new (ended {A = List ℕ} s)
    → Follows (raster_course r) old new (ended {A = Grid} s)
raster_stops r name old new s is h =
    subst (λ (c : Course Grid). Follows c old new (ended {A = Grid} s)) (sym (course_same r))
    (subst (λ (n : List ℕ). Follows (file (raster_in r) raster_text n) old new (ended {A = Grid} s)) is (file_stops Grid (raster_in r) raster_text name old new s h))
