-- A style's file and the files of its rasters, as its course.
use Rattle.std.proofs.Common.{◌≡◌, ℕ, inl, List, refl, ap, subst}
use Rattle.std.specs.Prelude.{Ok}
use Rattle.plain_drawing.specs.Grids.{Grid}
use Rattle.plain_drawing.specs.Styles.{RasterRef, MapStyle}
use Rattle.style_objects.specs.Tables.{style_in}
use Rattle.exit_status.specs.StyleFaults.{style_text}
use Rattle.exit_status.specs.Ends.{FilesAt}
use Rattle.exit_status.specs.declared.stops.Stop.{Stop}
use Rattle.farm_files.specs.Course.{Course, made, ◌>>=◌, file, each}
use Rattle.farm_files.specs.inner.Follows.{Follows}
use Rattle.farm_files.proofs.Courses.{ended, follows_then, follows_stop}
use Rattle.farm_files.specs.MapCourses.{raster_course, style_course, style_course_by}

-- the style with these grids
abbrev with_grids : MapStyle → List Grid → Course MapStyle
with_grids style grids = made (record style { grids = grids })

-- the style's file came to an early end
pub style_unread : (name : List ℕ) (old new : FilesAt) (s : Stop) → Follows (file style_in style_text name) old new (ended {A = MapStyle} s)
    → Follows (style_course name) old new (ended {A = MapStyle} s)
unfolding style_course_by
style_unread name old new s h =
    follows_stop MapStyle MapStyle (file style_in style_text name) (λ its. each raster_course its.rasters >>= with_grids its) old new s h

-- the files of a style's rasters made its grids
pub style_bound : (name : List ℕ) (style bound : MapStyle) (rasters : List RasterRef) (old middle new : FilesAt) (grids : List Grid) → rasters ≡ style.rasters
    → bound ≡ record style { grids = grids } → Follows (file style_in style_text name) old middle (Ok style)
    → Follows (each raster_course rasters) middle new (Ok grids) → Follows (style_course name) old new (Ok bound)
unfolding style_course_by
style_bound name style bound rasters old middle new grids is has first second =
    follows_then (file style_in style_text name) (λ its. each raster_course its.rasters >>= with_grids its) old middle new style (Ok bound) first
    (follows_then (each raster_course style.rasters) (with_grids style) middle new new grids (Ok bound)
    (subst (λ (rs : List RasterRef). Follows (each raster_course rs) middle new (Ok grids)) is second) (inl (ap Ok has), refl))

-- a raster's file came to an early end
pub style_stops : (name : List ℕ) (style : MapStyle) (rasters : List RasterRef) (old middle new : FilesAt) (s : Stop) → rasters ≡ style.rasters
    → Follows (file style_in style_text name) old middle (Ok style) → Follows (each raster_course rasters) middle new (ended {A = List Grid} s)
    → Follows (style_course name) old new (ended {A = MapStyle} s)
unfolding style_course_by
style_stops name style rasters old middle new s is first second =
    follows_then (file style_in style_text name) (λ its. each raster_course its.rasters >>= with_grids its) old middle new style (ended {A = MapStyle} s) first
    (follows_stop (List Grid) MapStyle (each raster_course style.rasters) (with_grids style) middle new s
    (subst (λ (rs : List RasterRef). Follows (each raster_course rs) middle new (ended {A = List Grid} s)) is second))
