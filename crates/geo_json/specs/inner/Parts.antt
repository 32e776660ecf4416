-- A feature as the code makes it of its parts. Words of inner contracts.
use Rattle.std.specs.Prelude.{ℕ, not, nat_lt, List, [], length, if◌then◌else◌, codes, Option, Some, None, Result, Ok, Err}
use Rattle.std.specs.List.{list_any}
use Rattle.serde_json.specs.Data.{Data}
use Rattle.serde_json.specs.Find.{get}
use Rattle.farm_base.specs.declared.values.Attr.{Attr}
use Rattle.plain_shapes.specs.declared.shapes.Geometry.{Geometry}
use Rattle.plain_shapes.specs.Features.{Feature}
use Rattle.plain_shapes.specs.Limits.{most_points, most_attrs}
use Rattle.geo_model.specs.declared.faults.GeoFault.{GeoFault}
use Rattle.geo_model.specs.declared.faults.GeoFault.TheVariants.{TooFewPoints, OutOfWorld, TooManyPoints, TooManyAttrs}
use Rattle.geo_model.specs.Shapes.{shape_fault, first_of, parts_of, has_too_few, is_outside, point_count}
use Rattle.reading.specs.Steps.{◌>>=◌, check}
use Rattle.reading.specs.Values.{or_value}
use Rattle.geo_json.specs.Attributes.{attrs_of}
use Rattle.geo_json.specs.declared.faults.DataFault.{DataFault}
use Rattle.geo_json.specs.declared.faults.DataFault.TheVariants.{Geo}

-- the attributes at the key `attrs`, none where it is absent
abbrev pub attrs_at : DataFault → Data → Result (List Attr) DataFault
attrs_at shape d = or_value [] (attrs_of shape) (get (codes "attrs") d)

-- the faults that the parts of a feature may have, in order: those of its shape, and then more than
-- 64 attributes; the keys of an object are distinct, so no two attributes have one name
abbrev pub parts_fault : Geometry → List Attr → Option GeoFault
parts_fault g attrs =
    first_of (shape_fault g) (if nat_lt most_attrs (length attrs) then Some TooManyAttrs else None)

-- the feature, or the fault that its parts have, with its places
abbrev pub made_unless : ℕ → ℕ → Feature → Option GeoFault → Result Feature DataFault
made_unless part place f None = Ok f
made_unless part place f (Some fault) = Err (Geo fault part place)

-- the feature of these parts, or their first fault
abbrev pub made_of : ℕ → ℕ → ℕ → Geometry → List Attr → Result Feature DataFault
made_of part place id g attrs =
    made_unless part place (record { id = id; geometry = g; attrs = attrs }) (parts_fault g attrs)

-- the same, as one check after another
abbrev pub made_by_checks : ℕ → ℕ → ℕ → Geometry → List Attr → Result Feature DataFault
made_by_checks part place id g attrs = do
  u ← check (not (has_too_few g)) (Geo TooFewPoints part place)
  u ← check (not (list_any (list_any is_outside) (parts_of g))) (Geo OutOfWorld part place)
  u ← check (not (nat_lt most_points (point_count g))) (Geo TooManyPoints part place)
  u ← check (not (nat_lt most_attrs (length attrs))) (Geo TooManyAttrs part place)
  Ok (record { id = id; geometry = g; attrs = attrs })
