-- What a bounding box reaches: the box widened by 64 pixels on each side.
use Rattle.std.specs.Prelude.{ℕ, ◌^◌, ◌≤◌, Bool}
use Rattle.plain_world.specs.declared.world.Square.{Square}
use Rattle.plain_shapes.specs.Reach.{margin_of}
use Rattle.geo_model.specs.declared.bounds.Bounds.{Bounds}
use Rattle.expiry_lists.specs.Boxes.{comes_near}

-- a box of points of the world: its edges are in order, and it begins in the world
pub record IsBox (b : Bounds) : Type 0 where
  pub across : b.west ≤ b.east
  pub down : b.north ≤ b.south
  pub from_west : b.west ≤ 2 ^ 30
  pub from_north : b.north ≤ 2 ^ 30

-- the box, widened by 64 pixels of tiles of that size at zoom z, holds a point of the square
abbrev pub box_reaches : Bounds → ℕ → ℕ → Square → Bool
box_reaches b size z s = comes_near b (margin_of size z) s
