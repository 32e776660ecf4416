-- Laws of what a feature reaches.
use Rattle.std.specs.Prelude.{ℕ, ◌≡◌, ◌↔◌, IsTrue, true, false}
use Rattle.plain_world.specs.declared.world.Point.{Point}
use Rattle.plain_world.specs.declared.world.Square.{Square}
use Rattle.plain_world.specs.declared.world.Tile.{Tile}
use Rattle.plain_drawing.specs.declared.style.Symbolizer.{Symbolizer}
use Rattle.plain_shapes.specs.declared.shapes.Geometry.{Geometry}
use Rattle.plain_world.specs.World.{window_of, tile_square, IsTile, IsTileSize}
use Rattle.plain_shapes.specs.Features.{Feature}
use Rattle.plain_drawing.specs.Styles.{Style, is_paint, KeepsRanges}
use Rattle.plain_shapes.specs.Images.{Pixels}
use Rattle.plain_drawing.specs.Drawing.{covers, feature, pixel_of}
use Rattle.plain_drawing.specs.inner.Pictures.{with_item}
use Rattle.plain_shapes.specs.Reach.{all_points, margin_of, InReach, Reaches, feature_reaches}

-- the test on a square's edges says whether some point of the square lies in the feature's reach
abbrev pub LawByEdges : Type 0
LawByEdges = (f : Feature) (size z : ℕ) (s : Square) → IsTrue (feature_reaches f size z s)
    ↔ Reaches f size z s

-- what a symbolizer covers of a shape lies within 64 pixels of the box of its points
abbrev pub LawWithin : Type 0
LawWithin = (g : Geometry) (size z : ℕ) (s : Symbolizer) (c : Point) → IsTrue (is_paint s)
    → covers (pixel_of z size) g c s ≡ true → InReach (all_points g) (margin_of size z) c

-- a feature that does not reach a tile's square leaves every pixel of its picture as it is
abbrev pub LawUnreached : Type 0
LawUnreached = (f : Feature) (size denominator : ℕ) (t : Tile) (style : Style) (image : Pixels)
    → IsTile t → IsTileSize size → KeepsRanges style
    → feature_reaches f size t.z (tile_square t) ≡ false
    → with_item (window_of t size) denominator style image (feature f) ≡ image
