-- Which parts make a feature, and the first fault of parts that make none.
use Rattle.std.specs.Prelude.{ℕ, ◌^◌, ◌≤◌, ◌≡◌, Bool, true, false, ◌||◌, nat_lt, if◌then◌else◌, List, [], ◌∷◌, length, sum_by, All, Option, Some, None}
use Rattle.std.specs.List.{list_any}
use Rattle.std.specs.Str.{bytes_eq}
use Rattle.farm_base.specs.declared.values.Attr.{Attr}
use Rattle.plain_world.specs.declared.world.Point.{Point}
use Rattle.plain_shapes.specs.declared.shapes.Geometry.{Geometry}
use Rattle.plain_shapes.specs.declared.shapes.Geometry.TheVariants.{Points, Lines, Polygon}
use Rattle.plain_world.specs.World.{InWorld}
use Rattle.geo_model.specs.declared.faults.GeoFault.{GeoFault}
use Rattle.plain_shapes.specs.Limits.{most_points, most_attrs}
use Rattle.geo_model.specs.declared.faults.GeoFault.TheVariants.{TooFewPoints, OutOfWorld, TooManyPoints, TooManyAttrs, DoubleName}

-- the parts of a shape: all points together, or each line, or each ring
abbrev pub parts_of : Geometry → List (List Point)
parts_of (Points points) = points ∷ []
parts_of (Lines lines) = lines
parts_of (Polygon rings) = rings

-- the fewest points that a part may have
abbrev pub least_points : Geometry → ℕ
least_points (Points points) = 1
least_points (Lines lines) = 2
least_points (Polygon rings) = 3

-- there is no part at all
abbrev pub is_none : List (List Point) → Bool
is_none [] = true
is_none (part ∷ parts) = false

-- no part, no point, a line of fewer than 2 or a ring of fewer than 3 points
abbrev pub has_too_few : Geometry → Bool
has_too_few g =
    is_none (parts_of g) || list_any (λ part. nat_lt (length part) (least_points g)) (parts_of g)

-- a coordinate over 2^30
abbrev pub is_outside : Point → Bool
is_outside p = nat_lt (2 ^ 30) p.x || nat_lt (2 ^ 30) p.y

-- the number of points in all
abbrev pub point_count : Geometry → ℕ
point_count g = sum_by length (parts_of g)

-- two attributes have one name
abbrev pub has_double_name : List Attr → Bool
has_double_name [] = false
has_double_name (a ∷ later) = list_any (λ b. bytes_eq a.name b.name) later || has_double_name later

-- the first fault of a shape
abbrev pub shape_fault : Geometry → Option GeoFault
shape_fault g =
    if has_too_few g then Some TooFewPoints
    else (if list_any (list_any is_outside) (parts_of g) then Some OutOfWorld
    else (if nat_lt most_points (point_count g) then Some TooManyPoints
    else None))

-- the first fault of attributes
abbrev pub attrs_fault : List Attr → Option GeoFault
attrs_fault attrs =
    if nat_lt most_attrs (length attrs) then Some TooManyAttrs
    else (if has_double_name attrs then Some DoubleName
    else None)

-- the first of two faults
abbrev pub first_of : Option GeoFault → Option GeoFault → Option GeoFault
first_of (Some fault) later = Some fault
first_of None later = later

-- the first fault of a feature's parts: those of the shape come before those of the attributes
abbrev pub fault_of : Geometry → List Attr → Option GeoFault
fault_of g attrs = first_of (shape_fault g) (attrs_fault attrs)

-- what every shape of a feature keeps
pub record IsShape (g : Geometry) : Type 0 where
  pub enough : has_too_few g ≡ false
  pub in_world : All (All InWorld) (parts_of g)
  pub few : point_count g ≤ most_points

-- what the attributes of a feature keep
pub record IsAttrs (attrs : List Attr) : Type 0 where
  pub few : length attrs ≤ most_attrs
  pub distinct : has_double_name attrs ≡ false
