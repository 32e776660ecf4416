-- Which squares a change of a feature may touch: the feature's bounding box, widened by 64 pixels
-- on each side.
use Rattle.std.specs.Prelude.{ℕ, ◌+◌, ◌*◌, ◌/◌, Bool, ◌&&◌, IsTrue, nat_le, nat_lt, List, flat_map}
use Rattle.std.specs.List.{list_any}
use Rattle.plain_world.specs.declared.world.Point.{Point}
use Rattle.plain_world.specs.declared.world.Square.{Square}
use Rattle.plain_shapes.specs.declared.shapes.Geometry.{Geometry}
use Rattle.plain_shapes.specs.declared.shapes.Geometry.TheVariants.{Points, Lines, Polygon}
use Rattle.plain_world.specs.World.{side_at, InSquare}
use Rattle.plain_shapes.specs.Features.{Feature}
use Rattle.plain_shapes.specs.Limits.{most_width}

-- all points of a shape
abbrev pub all_points : Geometry → List Point
all_points (Points points) = points
all_points (Lines lines) = flat_map (λ l. l) lines
all_points (Polygon rings) = flat_map (λ r. r) rings

-- 64 pixels in world units
abbrev pub margin_of : ℕ → ℕ → ℕ
margin_of size z = most_width * side_at z / size

-- p lies in the bounding box of the points widened by the margin, borders included: beside the
-- least and the greatest coordinate, that is beside some point's, on each side
pub record InReach (points : List Point) (margin : ℕ) (p : Point) : Type 0 where
  pub from_west : IsTrue (list_any (λ q. nat_le q.x (p.x + margin)) points)
  pub to_east : IsTrue (list_any (λ q. nat_le p.x (q.x + margin)) points)
  pub from_north : IsTrue (list_any (λ q. nat_le q.y (p.y + margin)) points)
  pub to_south : IsTrue (list_any (λ q. nat_le p.y (q.y + margin)) points)

-- the feature reaches the square, for tiles of so many pixels at zoom z: some point of the square
-- lies in its reach
abbrev pub Reaches : Feature → ℕ → ℕ → Square → Type 0
Reaches f size z s = (p : Point) × InReach (all_points f.geometry) (margin_of size z) p
    × InSquare s p

-- the same as a test on the square's edges
abbrev pub points_reach : List Point → ℕ → Square → Bool
points_reach points margin s = list_any (λ q. nat_lt q.x ((s.x + 1) * side_at s.z + margin)) points
    && list_any (λ q. nat_le (s.x * side_at s.z) (q.x + margin)) points
    && list_any (λ q. nat_lt q.y ((s.y + 1) * side_at s.z + margin)) points
    && list_any (λ q. nat_le (s.y * side_at s.z) (q.y + margin)) points

-- the feature's points pass this test
abbrev pub feature_reaches : Feature → ℕ → ℕ → Square → Bool
feature_reaches f size z s = points_reach (all_points f.geometry) (margin_of size z) s
