-- Features as JSON values. The part is the place of their layer or change, the item their place in
-- its list.
use Rattle.std.specs.Prelude.{ℕ, ◌^◌, ◌-◌, Bool, not, nat_lt, List, [], ◌∷◌, length, codes, Result, Ok}
use Rattle.std.specs.List.{list_any}
use Rattle.serde_json.specs.Data.{Data}
use Rattle.serde_json.specs.Find.{get}
use Rattle.plain_shapes.specs.Features.{Feature}
use Rattle.plain_shapes.specs.Data.{has_id, ids_of}
use Rattle.geo_model.specs.declared.faults.GeoFault.TheVariants.{TooFewPoints, OutOfWorld, TooManyPoints, TooManyAttrs}
use Rattle.geo_model.specs.Shapes.{parts_of, has_too_few, is_outside, point_count}
use Rattle.reading.specs.Steps.{◌>>=◌, check}
use Rattle.reading.specs.Values.{needed, or_value, whole_number}
use Rattle.geo_json.specs.Attributes.{attrs_of}
use Rattle.geo_json.specs.Geometries.{geometry_of}
use Rattle.geo_json.specs.Openings.{object_of}
use Rattle.geo_json.specs.declared.faults.DataFault.{DataFault}
use Rattle.geo_json.specs.declared.faults.DataFault.TheVariants.{Shape, Geo, DoubleId}
use Rattle.geo_json.specs.declared.coordinates.Units.{Units}
use Rattle.plain_shapes.specs.Limits.{most_points, most_attrs}

-- an id is a whole number of 64 bits
unfoldable pub id_of : DataFault → Data → Result ℕ DataFault
id_of shape d = whole_number shape shape 0 (2 ^ 64 - 1) d

-- A feature by its id, its shape and its attributes, and then what these parts have to keep. The
-- keys of an object are distinct, so no two attributes have one name.
unfoldable pub feature_of : Units → ℕ → ℕ → Data → Result Feature DataFault
feature_of units part place d = do
  u ← object_of (Shape part place) (codes "id" ∷ codes "geometry" ∷ codes "attrs" ∷ []) d
  id ← needed (Shape part place) (id_of (Shape part place)) (get (codes "id") d)
  g ← needed (Shape part place) (geometry_of units (Shape part place)) (get (codes "geometry") d)
  attrs ← or_value [] (attrs_of (Shape part place)) (get (codes "attrs") d)
  u ← check (not (has_too_few g)) (Geo TooFewPoints part place)
  u ← check (not (list_any (list_any is_outside) (parts_of g))) (Geo OutOfWorld part place)
  u ← check (not (nat_lt most_points (point_count g))) (Geo TooManyPoints part place)
  u ← check (not (nat_lt most_attrs (length attrs))) (Geo TooManyAttrs part place)
  Ok (record { id = id; geometry = g; attrs = attrs })

-- a feature of a list, after those before it
abbrev pub feature_after : Units → ℕ → List Feature → Data → Result Feature DataFault
feature_after units part before d = feature_of units part (length before) d

-- no earlier feature of the list has its id
abbrev pub is_new : List Feature → Feature → Bool
is_new before f = not (has_id (ids_of before) f.id)

-- a feature of a list with distinct ids, after those before it
unfoldable pub new_feature_after : Units → ℕ → List Feature → Data → Result Feature DataFault
new_feature_after units part before d = do
  f ← feature_after units part before d
  u ← check (is_new before f) (DoubleId part f.id)
  Ok f
