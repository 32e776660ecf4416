-- How far from the points of a shape a symbolizer may paint.
use Rattle.std.specs.Prelude.{ℕ, ◌+◌, ◌≤◌}
use Rattle.plain_world.specs.declared.world.Point.{Point}
use Rattle.plain_drawing.specs.declared.style.Symbolizer.{Symbolizer}
use Rattle.plain_drawing.specs.declared.style.Symbolizer.TheVariants as paint
use Rattle.plain_shapes.specs.Strokes.{half_of}
use Rattle.geo_model.specs.declared.bounds.Bounds.{Bounds}

-- how far a symbolizer may paint to the west and to the east, in world units, where pixels have
-- this side: strokes by their whole width (a square cap's corner lies further off than half of it),
-- marks by half their width, and all else not at all
abbrev pub spread_across : ℕ → Symbolizer → ℕ
spread_across pixel (paint.Polygon fill opacity) = 0
spread_across pixel (paint.Line stroke width opacity cap) =
    half_of width pixel + half_of width pixel
spread_across pixel (paint.Markers fill width height opacity) = half_of width pixel
spread_across pixel (paint.Raster opacity) = 0

-- how far a symbolizer may paint to the north and to the south: strokes by their whole width, marks
-- by half their height
abbrev pub spread_down : ℕ → Symbolizer → ℕ
spread_down pixel (paint.Polygon fill opacity) = 0
spread_down pixel (paint.Line stroke width opacity cap) = half_of width pixel + half_of width pixel
spread_down pixel (paint.Markers fill width height opacity) = half_of height pixel
spread_down pixel (paint.Raster opacity) = 0

-- the point lies in the rectangle widened by so much to the west and east, and by so much to the
-- north and south, borders included
pub record Beside (b : Bounds) (across down : ℕ) (c : Point) : Type 0 where
  pub west : b.west ≤ c.x + across
  pub east : c.x ≤ b.east + across
  pub north : b.north ≤ c.y + down
  pub south : c.y ≤ b.south + down
