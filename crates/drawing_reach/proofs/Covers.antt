-- What a symbolizer covers of a shape lies in every rectangle that holds the shape's points, widened by what the symbolizer spreads.
use Rattle.std.proofs.Common.{◌≡◌, ℕ, true, [], ◌∷◌}
use Rattle.std.specs.Prelude.{All}
use Rattle.plain_world.specs.declared.world.Point.{Point}
use Rattle.plain_shapes.specs.declared.shapes.Geometry.{Geometry}
use Rattle.plain_shapes.specs.declared.shapes.Geometry.TheVariants as shape
use Rattle.plain_drawing.specs.declared.style.Symbolizer.{Symbolizer}
use Rattle.plain_drawing.specs.declared.style.Symbolizer.TheVariants as paint
use Rattle.plain_shapes.specs.Strokes.{half_of}
use Rattle.plain_drawing.specs.Drawing.{covers}
use Rattle.geo_model.specs.declared.bounds.Bounds.{Bounds}
use Rattle.geo_model.specs.Bounds.{InBounds}
use Rattle.geo_model.specs.Shapes.{parts_of}
use Rattle.drawing_reach.specs.inner.Spreads.{Beside, spread_across, spread_down}
use Rattle.drawing_reach.proofs.Members.{parts_by_recursion}
use Rattle.drawing_reach.proofs.Fills.{rings_beside}
use Rattle.drawing_reach.proofs.Outlines.{lines_beside, outlines_beside, marks_beside}

pub covered_beside : (b : Bounds) (pixel : ℕ) (g : Geometry) (c : Point) (s : Symbolizer) → All (All (InBounds b)) (parts_of g)
    → covers pixel g c s ≡ true → Beside b (spread_across pixel s) (spread_down pixel s) c
covered_beside b pixel (shape.Polygon rings) c (paint.Polygon fill opacity) all h = rings_beside b rings c (parts_by_recursion (InBounds b) rings all) h
covered_beside b pixel (shape.Lines lines) c (paint.Polygon fill opacity) all h = absurd (cc)
covered_beside b pixel (shape.Points points) c (paint.Polygon fill opacity) all h = absurd (cc)
covered_beside b pixel (shape.Polygon rings) c (paint.Line stroke width opacity cap) all h = outlines_beside b (half_of width pixel) c rings (parts_by_recursion (InBounds b) rings all) h
covered_beside b pixel (shape.Lines lines) c (paint.Line stroke width opacity cap) all h = lines_beside b (half_of width pixel) cap c lines (parts_by_recursion (InBounds b) lines all) h
covered_beside b pixel (shape.Points points) c (paint.Line stroke width opacity cap) all h = absurd (cc)
covered_beside b pixel (shape.Polygon rings) c (paint.Markers fill width height opacity) all h = absurd (cc)
covered_beside b pixel (shape.Lines lines) c (paint.Markers fill width height opacity) all h = absurd (cc)
covered_beside b pixel (shape.Points points) c (paint.Markers fill width height opacity) all h =
    (let parts = parts_by_recursion (InBounds b) (points ∷ []) all in marks_beside b (half_of width pixel) (half_of height pixel) c points parts.0 h)
covered_beside b pixel (shape.Polygon rings) c (paint.Raster opacity) all h = absurd (cc)
covered_beside b pixel (shape.Lines lines) c (paint.Raster opacity) all h = absurd (cc)
covered_beside b pixel (shape.Points points) c (paint.Raster opacity) all h = absurd (cc)
