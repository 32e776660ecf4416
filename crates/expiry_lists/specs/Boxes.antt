-- Bounding boxes widened by a margin, and the squares that hold a point of one.
use Rattle.std.specs.Prelude.{ℕ, ◌+◌, ◌*◌, ◌≤◌, Bool, ◌&&◌, nat_le, nat_lt}
use Rattle.plain_world.specs.declared.world.Point.{Point}
use Rattle.plain_world.specs.declared.world.Square.{Square}
use Rattle.plain_world.specs.World.{side_at, InSquare}
use Rattle.geo_model.specs.declared.bounds.Bounds.{Bounds}

-- the point lies in the box widened by the margin on each side, borders included
pub record InWide (b : Bounds) (margin : ℕ) (p : Point) : Type 0 where
  pub from_west : b.west ≤ p.x + margin
  pub to_east : p.x ≤ b.east + margin
  pub from_north : b.north ≤ p.y + margin
  pub to_south : p.y ≤ b.south + margin

-- the square holds a point of the widened box
abbrev pub Holds : Square → Bounds → ℕ → Type 0
Holds s b margin = (p : Point) × InWide b margin p × InSquare s p

-- the stretch from the least to the greatest number, widened by the margin on both sides, holds a
-- number of the stretch of so many units that stands at that place
abbrev pub is_near : ℕ → ℕ → ℕ → ℕ → ℕ → Bool
is_near least greatest place units margin =
    nat_lt least ((place + 1) * units + margin) && nat_le (place * units) (greatest + margin)

-- the same as a test on the edges of both, where the box's do not cross
abbrev pub comes_near : Bounds → ℕ → Square → Bool
comes_near b margin s = is_near b.west b.east s.x (side_at s.z) margin
    && is_near b.north b.south s.y (side_at s.z) margin
