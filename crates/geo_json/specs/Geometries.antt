-- Shapes as JSON values.
use Rattle.std.specs.Prelude.{List, [], ◌∷◌, codes, Option, Some, None, Result, Ok, Err}
use Rattle.serde_json.specs.Data.{Data}
use Rattle.serde_json.specs.Find.{get}
use Rattle.plain_world.specs.declared.world.Point.{Point}
use Rattle.plain_shapes.specs.declared.shapes.Geometry.{Geometry}
use Rattle.plain_shapes.specs.declared.shapes.Geometry.TheVariants.{Points, Lines, Polygon}
use Rattle.reading.specs.Lists.{list_of}
use Rattle.reading.specs.Steps.{◌>>=◌}
use Rattle.reading.specs.Values.{list}
use Rattle.geo_json.specs.Coordinates.{point_of}
use Rattle.geo_json.specs.Openings.{object_of}
use Rattle.geo_json.specs.declared.faults.DataFault.{DataFault}
use Rattle.geo_json.specs.declared.coordinates.Units.{Units}

-- a list of points
unfoldable pub path_points : Units → DataFault → Data → Result (List Point) DataFault
path_points units shape d =
    list shape d >>= λ items. list_of (λ before p. point_of units shape p) items

-- a list of lines, or of rings
unfoldable pub paths_of : Units → DataFault → Data → Result (List (List Point)) DataFault
paths_of units shape d =
    list shape d >>= λ items. list_of (λ before p. path_points units shape p) items

-- the values at the three keys a shape may have: exactly one of them is there
abbrev pub one_shape : Units → DataFault → Option Data → Option Data → Option Data
    → Result Geometry DataFault
one_shape units shape (Some d) None None =
    path_points units shape d >>= λ points. Ok (Points points)
one_shape units shape None (Some d) None = paths_of units shape d >>= λ lines. Ok (Lines lines)
one_shape units shape None None (Some d) = paths_of units shape d >>= λ rings. Ok (Polygon rings)
one_shape units shape _ _ _ = Err shape

-- a shape is an object with exactly one key
unfoldable pub geometry_of : Units → DataFault → Data → Result Geometry DataFault
geometry_of units shape d = do
  u ← object_of shape (codes "points" ∷ codes "lines" ∷ codes "polygon" ∷ []) d
  one_shape units shape (get (codes "points") d) (get (codes "lines") d) (get (codes "polygon") d)
