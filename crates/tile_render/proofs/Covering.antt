-- What a symbolizer covers on a feature, as a mask of the region near it.
use Rattle.std.proofs.Common.{List, [], ◌∷◌, subst, arith, refl, ◌≡◌, ◌+◌, ◌*◌, ◌/◌, ◌<◌, ℕ, Bool, true, false, ◌||◌, ap, sym, ◌∙◌, length, get_or, replicate}
use Rattle.std.specs.Prelude.{All}
use Rattle.std.proofs.lemmas.Bool.{false_from_ne_true, true≢false}
use Rattle.std.proofs.lemmas.Nat.{row_fits}
use Rattle.std.proofs.lemmas.List.{get_or-map}
use Rattle.plain_world.specs.declared.world.Point.{Point}
use Rattle.plain_world.specs.declared.world.Window.{Window}
use Rattle.plain_drawing.specs.declared.style.Symbolizer.{Symbolizer}
use Rattle.plain_drawing.specs.declared.style.Symbolizer.TheVariants as paint
use Rattle.plain_shapes.specs.declared.shapes.Geometry.{Geometry}
use Rattle.plain_shapes.specs.declared.shapes.Geometry.TheVariants as shape
use Rattle.plain_world.specs.World.{InWorld, centre, centres}
use Rattle.geo_model.specs.declared.bounds.Bounds.{Bounds}
use Rattle.geo_model.specs.Bounds.{InBounds}
use Rattle.geo_model.specs.Shapes.{parts_of}
use Rattle.drawing_reach.specs.inner.Spreads.{Beside, spread_across, spread_down}
use Rattle.drawing_reach.proofs.Covers.{covered_beside}
use Rattle.plain_shapes.specs.Features.{Feature}
use Rattle.plain_shapes.specs.inner.Canvas.{marked}
use Rattle.plain_drawing.specs.Drawing.{covers}
use Rattle.plain_shapes.proofs.Places.{length-centres, get_or-centres}
use Rattle.plain_drawing.proofs.Steps.{at_centres-replicate}
use Rattle.tile_render.specs.declared.regions.Region.{Region}
use Rattle.tile_render.specs.inner.Regions.{InRegion, region_window, Holds, HoldsCovered, Tells}
use Rattle.tile_render.specs.declared.pieces.Piece.{Piece}
use Rattle.plain_shapes.specs.Rings.{in_rings}
use Rattle.tile_render.specs.inner.Covers.{is_fill, Consists}
use Rattle.tile_render.specs.inner.Pieces.{PiecesTell}

-- of bits with the members marked, those that are set are the members
pub bit_told : (w : Window) (member : Point → Bool) (bits : List Bool) (j i : ℕ) → bits ≡ marked member (centres w) (replicate (w.rows * w.cols) false)
    → j < w.rows → i < w.cols → get_or bits (j * w.cols + i) false ≡ member (centre w i j)
bit_told w member bits j i is hj hi =
    let d : Point = record { x = 0; y = 0 } in
    let within : j * w.cols + i < length (centres w) = omega (arith, length-centres w, row_fits j w.cols w.rows w.cols hj (omega arith)) in
    ap (λ bs. get_or bs (j * w.cols + i) false) (is ∙ at_centres-replicate (λ c b. b || member c) (centres w) (w.rows * w.cols) false (sym (length-centres w)))
    ∙ get_or-map member (centres w) (j * w.cols + i) d false within
    ∙ ap member (get_or-centres w j i d hi hj)

-- the mask of a region's pixels whose centres are members tells them, where the region has every pixel whose centre is one
pub region_told : (w : Window) (p : Region) (member : Point → Bool) (bits : List Bool) → Holds w p member
    → bits ≡ marked member (centres (region_window w p)) (replicate (p.rows * p.cols) false) → Tells w p member bits
region_told w p member bits holds is = record {
  at = λ j i hj hi.
      (let v : Window = region_window w p in
      let x : v.west + i * v.pixel + v.pixel / 2 ≡ w.west + (p.col + i) * w.pixel + w.pixel / 2 = omega arith in
      let y : v.north + j * v.pixel + v.pixel / 2 ≡ w.north + (p.row + j) * w.pixel + w.pixel / 2 = omega arith in
      bit_told v member bits j i is hj hi
      ∙ ap (λ k. member (record { x = k; y = v.north + j * v.pixel + v.pixel / 2 })) x
      ∙ ap (λ k. member (record { x = w.west + (p.col + i) * w.pixel + w.pixel / 2; y = k })) y);
  holds = holds;
}

-- the cover of a region that has all that is covered
pub cover_made : (w : Window) (f : Feature) (s : Symbolizer) (r : Region) (near : Window) (pieces : List Piece) → HoldsCovered w r f s
    → near ≡ region_window w r → PiecesTell near (λ c. covers near.pixel f.geometry c s) pieces → Consists w r (λ c. covers w.pixel f.geometry c s) pieces
cover_made w f s r near pieces holds near_is tells = record {
  tells = subst (λ (v : Window). PiecesTell v (λ c. covers v.pixel f.geometry c s) pieces) near_is tells;
  holds = holds;
}

same_beside : (w : Window) (s : Symbolizer) (c : Point) (b : Bounds) (across down : ℕ) → across ≡ spread_across w.pixel s → down ≡ spread_down w.pixel s
    → Beside b (spread_across w.pixel s) (spread_down w.pixel s) c → Beside b across down c
same_beside w s c b across down e k h = record { west = omega arith; east = omega arith; north = omega arith; south = omega arith }

-- where no centre of the window lies near the feature, none is covered
pub none_covered : (w : Window) (f : Feature) (s : Symbolizer) (b : Bounds) (across down : ℕ) → All (All (InBounds b)) (parts_of f.geometry)
    → across ≡ spread_across w.pixel s → down ≡ spread_down w.pixel s
    → ((j i : ℕ) → i < w.cols → j < w.rows → Beside b across down (centre w i j) → ⊥)
    → (j i : ℕ) → i < w.cols → j < w.rows → covers w.pixel f.geometry (centre w i j) s ≡ false
none_covered w f s b across down inside across_is down_is none j i hi hj =
    false_from_ne_true (covers w.pixel f.geometry (centre w i j) s) (λ e.
    none j i hi hj (same_beside w s (centre w i j) b across down across_is down_is (covered_beside b w.pixel f.geometry (centre w i j) s inside e)))

-- a region with all pixels near the feature has all that the symbolizer covers
pub near_holds : (w : Window) (p : Region) (f : Feature) (s : Symbolizer) (b : Bounds) (across down : ℕ) → All (All (InBounds b)) (parts_of f.geometry)
    → across ≡ spread_across w.pixel s → down ≡ spread_down w.pixel s
    → ((j i : ℕ) → i < w.cols → j < w.rows → Beside b across down (centre w i j) → InRegion p i j)
    → HoldsCovered w p f s
near_holds w p f s b across down inside across_is down_is near = record {
  at = λ j i hi hj e. near j i hi hj (same_beside w s (centre w i j) b across down across_is down_is (covered_beside b w.pixel f.geometry (centre w i j) s inside e));
}

-- a RasterSymbolizer covers no feature
pub raster_off : (pixel opacity : ℕ) (g : Geometry) (c : Point) → covers pixel g c (paint.Raster opacity) ≡ false
raster_off pixel opacity (shape.Points points) c = refl
raster_off pixel opacity (shape.Lines lines) c = refl
raster_off pixel opacity (shape.Polygon rings) c = refl

-- what fills covers the insides of a polygon's rings, and nothing of other shapes
pub filled : (pixel : ℕ) (g : Geometry) (s : Symbolizer) (rings : List (List Point)) (c : Point) → is_fill s ≡ true → g ≡ shape.Polygon rings
    → covers pixel g c s ≡ in_rings rings c
filled pixel g (paint.Polygon colour opacity) rings c fills is = ap (λ g. covers pixel g c (paint.Polygon colour opacity)) is
filled pixel g (paint.Line stroke width opacity cap) rings c fills is = absurd (true≢false (sym fills))
filled pixel g (paint.Markers colour width height opacity) rings c fills is = absurd (true≢false (sym fills))
filled pixel g (paint.Raster opacity) rings c fills is = absurd (true≢false (sym fills))

pub points_unfilled : (pixel : ℕ) (g : Geometry) (s : Symbolizer) (points : List Point) (c : Point) → is_fill s ≡ true → g ≡ shape.Points points
    → covers pixel g c s ≡ false
points_unfilled pixel g (paint.Polygon colour opacity) points c fills is = ap (λ g. covers pixel g c (paint.Polygon colour opacity)) is
points_unfilled pixel g (paint.Line stroke width opacity cap) points c fills is = absurd (true≢false (sym fills))
points_unfilled pixel g (paint.Markers colour width height opacity) points c fills is = absurd (true≢false (sym fills))
points_unfilled pixel g (paint.Raster opacity) points c fills is = absurd (true≢false (sym fills))

pub lines_unfilled : (pixel : ℕ) (g : Geometry) (s : Symbolizer) (lines : List (List Point)) (c : Point) → is_fill s ≡ true → g ≡ shape.Lines lines
    → covers pixel g c s ≡ false
lines_unfilled pixel g (paint.Polygon colour opacity) lines c fills is = ap (λ g. covers pixel g c (paint.Polygon colour opacity)) is
lines_unfilled pixel g (paint.Line stroke width opacity cap) lines c fills is = absurd (true≢false (sym fills))
lines_unfilled pixel g (paint.Markers colour width height opacity) lines c fills is = absurd (true≢false (sym fills))
lines_unfilled pixel g (paint.Raster opacity) lines c fills is = absurd (true≢false (sym fills))

-- the points of a shape that is points lie in the world, where the parts of the shape do
pub points_inside : (g : Geometry) (points : List Point) → g ≡ shape.Points points → All (All InWorld) (parts_of g) → All InWorld points
points_inside g points is inside =
    let here : All (All InWorld) (points ∷ []) = subst (λ s. All (All InWorld) (parts_of s)) is inside in
    here 0 [] (omega arith)
