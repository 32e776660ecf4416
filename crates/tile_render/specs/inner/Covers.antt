-- What a symbolizer covers of a window.
use Rattle.std.specs.Prelude.{◌≡◌, ℕ, ◌<◌, Bool, true, false, List, All, Option, Some, None}
use Rattle.std.specs.List.Sorted.{IsNonDecreasing}
use Rattle.plain_world.specs.declared.world.Point.{Point}
use Rattle.plain_world.specs.declared.world.Window.{Window}
use Rattle.plain_world.specs.World.{centre}
use Rattle.plain_shapes.specs.Features.{Feature}
use Rattle.plain_shapes.specs.declared.shapes.Geometry.{Geometry}
use Rattle.plain_shapes.specs.declared.shapes.Geometry.TheVariants as shape
use Rattle.plain_drawing.specs.declared.style.Symbolizer.{Symbolizer}
use Rattle.plain_drawing.specs.declared.style.Symbolizer.TheVariants as paint
use Rattle.plain_drawing.specs.Drawing.{covers}
use Rattle.raster_core.specs.inner.Toggles.{AllInside}
use Rattle.raster_core.specs.inner.Crossings.{Crossings}
use Rattle.tile_render.specs.declared.regions.Region.{Region}
use Rattle.tile_render.specs.declared.covers.Covered.{Covered}
use Rattle.tile_render.specs.declared.pieces.Piece.{Piece}
use Rattle.tile_render.specs.inner.Pieces.{IsPiece, PiecesTell}
use Rattle.tile_render.specs.inner.Regions.{IsRegion, region_window, Holds}

-- whether the symbolizer fills polygons
abbrev pub is_fill : Symbolizer → Bool
is_fill (paint.Polygon fill opacity) = true
is_fill (paint.Line stroke width opacity cap) = false
is_fill (paint.Markers fill width height opacity) = false
is_fill (paint.Raster opacity) = false

-- whether the shape is points
abbrev pub is_points : Geometry → Bool
is_points (shape.Points points) = true
is_points (shape.Lines lines) = false
is_points (shape.Polygon rings) = false

-- the crossings lie in the region, in order
pub record RunsFit (w : Window) (r : Region) (places : List ℕ) : Type 0 where
  pub inside : AllInside (region_window w r) places
  pub order : IsNonDecreasing places

-- the runs between the crossings have the region's pixels with a member as their centre, and no
-- other pixel of the window has one
pub record Between (w : Window) (r : Region) (member : Point → Bool)
    (places : List ℕ) : Type 0 where
  pub crossings : Crossings (region_window w r) member places
  pub holds : Holds w r member

-- the pieces are the region's pixels with a member as their centre, and no other pixel of the
-- window has one
pub record Consists (w : Window) (r : Region) (member : Point → Bool)
    (pieces : List Piece) : Type 0 where
  pub tells : PiecesTell (region_window w r) member pieces
  pub holds : Holds w r member

-- the cover has the pixels of the window whose centres the symbolizer covers on the feature
pub record IsCover (w : Window) (f : Feature) (s : Symbolizer) (cover : Covered) : Type 0 where
  pub region : IsRegion w cover.region
  pub fits : All (IsPiece cover.region.cols cover.region.rows) cover.pieces.items
  pub says : Consists w cover.region (λ c. covers w.pixel f.geometry c s) cover.pieces.items

-- there is none where no pixel is covered
abbrev pub Covers : Window → Feature → Symbolizer → Option Covered → Type 0
Covers w f s None = (j i : ℕ) → i < w.cols → j < w.rows
    → covers w.pixel f.geometry (centre w i j) s ≡ false
Covers w f s (Some cover) = IsCover w f s cover
