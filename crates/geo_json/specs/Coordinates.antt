-- The units of a text, and coordinates in them.
use Rattle.std.specs.Prelude.{ℕ, ℤ, pos, negsuc, ◌+◌, ◌^◌, nat_le, if◌then◌else◌, codes, unwrap_or, List, Option, Result, Ok, Err}
use Rattle.std.specs.Str.{bytes_eq}
use Rattle.serde_json.specs.Data.{Data, Items, no_items, item}
use Rattle.serde_json.specs.Find.{get}
use Rattle.plain_world.specs.declared.world.Point.{Point}
use Rattle.plain_world.specs.World.{x_from_cm, y_from_cm}
use Rattle.reading.specs.Steps.{◌>>=◌}
use Rattle.reading.specs.Values.{or_value, text, list, signed}
use Rattle.geo_json.specs.declared.faults.DataFault.{DataFault}
use Rattle.geo_json.specs.declared.coordinates.Units.{Units}
use Rattle.geo_json.specs.declared.coordinates.Units.TheVariants.{Centimetres, World}

-- the units of a name
abbrev pub units_named : DataFault → List ℕ → Result Units DataFault
units_named shape name = if bytes_eq name (codes "cm") then Ok Centimetres
    else (if bytes_eq name (codes "world") then Ok World else Err shape)

-- the key `units` is `cm` or `world`, and `cm` where it is absent
abbrev pub units_at : DataFault → Data → Result Units DataFault
units_at shape d =
    or_value Centimetres (λ u. text shape u >>= units_named shape) (get (codes "units") d)

-- a coordinate that no point of the world has: it stands for all that lies outside of the world,
-- and its feature is refused in its turn
abbrev pub outside : ℕ
outside = 2 ^ 30 + 1

-- a coordinate in world units
abbrev pub in_world : ℤ → ℕ
in_world (pos n) = if nat_le n (2 ^ 30) then n else outside
in_world (negsuc n) = outside

-- the world coordinate of a number in these units, where centimetres are counted so
abbrev pub coordinate : (ℤ → Option ℕ) → Units → ℤ → ℕ
coordinate from_cm Centimetres c = unwrap_or (from_cm c) outside
coordinate from_cm World c = in_world c

-- a point by its two coordinates
abbrev pub pair_of : Units → DataFault → Items → Result Point DataFault
pair_of units shape no_items = Err shape
pair_of units shape (item x no_items) = Err shape
pair_of units shape (item x (item y no_items)) = signed shape x >>= λ a. signed shape y >>= λ b. Ok
    (record { x = coordinate x_from_cm units a; y = coordinate y_from_cm units b })
pair_of units shape (item x (item y (item z ds))) = Err shape

-- a point as a JSON value: a list of its two coordinates
unfoldable pub point_of : Units → DataFault → Data → Result Point DataFault
point_of units shape d = list shape d >>= pair_of units shape
