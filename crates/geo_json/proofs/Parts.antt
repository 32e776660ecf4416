-- The parts of a feature.
use Rattle.std.proofs.Common.{◌≡◌, ℕ, Bool, true, false, not, List, length, if◌then◌else◌, Some, None, Result, Ok, refl, ◌∙◌}
use Rattle.std.specs.Prelude.{nat_lt}
use Rattle.std.specs.List.{list_any}
use Rattle.farm_base.specs.declared.values.Attr.{Attr}
use Rattle.plain_shapes.specs.declared.shapes.Geometry.{Geometry}
use Rattle.plain_shapes.specs.Features.{Feature}
use Rattle.plain_shapes.specs.Limits.{most_points, most_attrs}
use Rattle.geo_model.specs.declared.faults.GeoFault.TheVariants.{TooFewPoints, OutOfWorld, TooManyPoints, TooManyAttrs}
use Rattle.geo_model.specs.Shapes.{first_of, parts_of, has_too_few, is_outside, point_count, has_double_name, fault_of}
use Rattle.reading.specs.Steps.{◌>>=◌, check}
use Rattle.geo_json.specs.declared.faults.DataFault.{DataFault}
use Rattle.geo_json.specs.declared.faults.DataFault.TheVariants.{Geo}
use Rattle.geo_json.specs.inner.Parts.{parts_fault, made_unless, made_of, made_by_checks}

-- attributes have distinct names
pub no_double : (g : Geometry) (attrs : List Attr) → has_double_name attrs ≡ false → parts_fault g attrs ≡ fault_of g attrs
no_double g attrs single = rw single refl

-- the first fault, or one check after another
by_checks : (part place : ℕ) (f : Feature) (a b c e : Bool)
    → made_unless part place f (first_of (if a then Some TooFewPoints else (if b then Some OutOfWorld else (if c then Some TooManyPoints else None))) (if e then Some TooManyAttrs else None))
    ≡ (check (not a) (Geo TooFewPoints part place) >>= λ u. check (not b) (Geo OutOfWorld part place) >>= λ u. check (not c) (Geo TooManyPoints part place) >>= λ u.
    check (not e) (Geo TooManyAttrs part place) >>= λ u. Ok f)
by_checks part place f true b c e = refl
by_checks part place f false true c e = refl
by_checks part place f false false true e = refl
by_checks part place f false false false true = refl
by_checks part place f false false false false = refl

pub made_checked : (part place id : ℕ) (g : Geometry) (attrs : List Attr) (made : Result Feature DataFault) → made ≡ made_of part place id g attrs → made ≡ made_by_checks part place id g attrs
made_checked part place id g attrs made is =
    is
    ∙ by_checks part place (record { id = id; geometry = g; attrs = attrs }) (has_too_few g) (list_any (list_any is_outside) (parts_of g)) (nat_lt most_points (point_count g))
    (nat_lt most_attrs (length attrs))
