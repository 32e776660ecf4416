-- Bounding boxes: the least rectangle that holds all points of a shape.
use Rattle.std.specs.Prelude.{◌^◌, ◌≤◌, min, max, Bool, ◌&&◌, nat_le, List, fold, All}
use Rattle.plain_world.specs.declared.world.Point.{Point}
use Rattle.geo_model.specs.declared.bounds.Bounds.{Bounds}

-- the point lies in the rectangle, borders included
pub record InBounds (b : Bounds) (p : Point) : Type 0 where
  pub from_west : b.west ≤ p.x
  pub to_east : p.x ≤ b.east
  pub from_north : b.north ≤ p.y
  pub to_south : p.y ≤ b.south

-- the first rectangle lies in the second
pub record Within (inner outer : Bounds) : Type 0 where
  pub west : outer.west ≤ inner.west
  pub north : outer.north ≤ inner.north
  pub east : inner.east ≤ outer.east
  pub south : inner.south ≤ outer.south

-- the least rectangle that holds every point of the parts: it holds them, and lies in each other
-- one that does
pub record IsLeastBounds (b : Bounds) (parts : List (List Point)) : Type 0 where
  pub holds : All (All (InBounds b)) parts
  pub least : (other : Bounds) → All (All (InBounds other)) parts → Within b other

-- two rectangles have a point in common, borders included
abbrev pub meets : Bounds → Bounds → Bool
meets a b =
    nat_le a.west b.east && nat_le b.west a.east && nat_le a.north b.south && nat_le b.north a.south

-- the box of no point yet: every point of the world widens it to that point alone
abbrev pub no_bounds : Bounds
no_bounds = record { west = 2 ^ 30; north = 2 ^ 30; east = 0; south = 0 }

-- the rectangle widened to hold the point
abbrev pub box_with : Bounds → Point → Bounds
box_with b p = record {
  west = min b.west p.x;
  north = min b.north p.y;
  east = max b.east p.x;
  south = max b.south p.y;
}

-- the bounding box of the parts of a shape: the least and the greatest coordinates of their points
abbrev pub bounds_of : List (List Point) → Bounds
bounds_of parts = fold (fold box_with) no_bounds parts
