-- Rectangles in parts of a box, 256 by 256.
use Rattle.std.specs.Prelude.{ℕ, ◌+◌, ◌-◌, ◌*◌, ◌/◌, min, max, Bool, ◌&&◌, nat_le}
use Rattle.geo_model.specs.declared.bounds.Bounds.{Bounds}
use Rattle.data_versions.specs.declared.grid.GridBox.{GridBox}

-- how many shares one step from low towards high is, of which the whole way has 256 times 2^34
abbrev pub scale_of : ℕ → ℕ → ℕ
scale_of low high = 4398046511104 / (high - low + 1)

-- in which of 256 equal parts of the way from low to high the place of the way that is nearest to x
-- lies, counted from 0
abbrev pub part_of : ℕ → ℕ → ℕ → ℕ
part_of low high x = (max low (min high x) - low) * scale_of low high / 17179869184

-- the rectangle in parts of the box
abbrev pub on_grid : Bounds → Bounds → GridBox
on_grid box b = record {
  west = part_of box.west box.east b.west;
  north = part_of box.north box.south b.north;
  east = part_of box.west box.east b.east;
  south = part_of box.north box.south b.south;
}

-- two rectangles in parts have a part in common
abbrev pub grid_meets : GridBox → GridBox → Bool
grid_meets a b =
    nat_le a.west b.east && nat_le b.west a.east && nat_le a.north b.south && nat_le b.north a.south
