-- The world, its squares, the windows of tiles and metatiles, and the centres of their pixels.
-- The world is 2^30 by 2^30 units, y to the south.
use Rattle.std.specs.Prelude.{ℕ, ◌+◌, ◌-◌, ◌*◌, ◌/◌, ◌%◌, ◌^◌, ◌≡◌, ◌<◌, ◌≤◌, ◌==◌, min, Bool, IsTrue, ◌&&◌, ◌||◌, nat_le, nat_lt, if◌then◌else◌, List, map, flat_map, ℤ, pos, negsuc, ◌+ℤ◌, ◌-ℤ◌, Option, Some, None}
use Rattle.std.specs.List.{range_with_len}
use Rattle.plain_world.specs.declared.world.Point.{Point}
use Rattle.plain_world.specs.declared.world.Tile.{Tile}
use Rattle.plain_world.specs.declared.world.Square.{Square}
use Rattle.plain_world.specs.declared.world.Meta.{Meta}
use Rattle.plain_world.specs.declared.world.Window.{Window}
use Rattle.plain_world.specs.Limits.{most_side}

-- a point whose coordinates are at most the world's side
pub record InWorld (p : Point) : Type 0 where
  pub x_fits : p.x ≤ 2 ^ 30
  pub y_fits : p.y ≤ 2 ^ 30

-- the side of a square of zoom z: each zoom halves it
abbrev pub side_at : ℕ → ℕ
side_at z = 2 ^ (30 - z)

-- a tile: zoom at most 18, column and row below 2^z
pub record IsTile (t : Tile) : Type 0 where
  pub z_fits : t.z ≤ 18
  pub x_fits : t.x < 2 ^ t.z
  pub y_fits : t.y < 2 ^ t.z

-- a square of the quadtree, under the same bounds
pub record IsSquare (s : Square) : Type 0 where
  pub z_fits : s.z ≤ 18
  pub x_fits : s.x < 2 ^ s.z
  pub y_fits : s.y < 2 ^ s.z

-- a metatile: under the same bounds, its column and row are multiples of 8
pub record IsMeta (m : Meta) : Type 0 where
  pub z_fits : m.z ≤ 18
  pub x_fits : m.x < 2 ^ m.z
  pub y_fits : m.y < 2 ^ m.z
  pub x_eights : m.x % 8 ≡ 0
  pub y_eights : m.y % 8 ≡ 0

-- the square holds the points from its west and north edge on and before its east and south edge
pub record InSquare (s : Square) (p : Point) : Type 0 where
  pub from_west : s.x * side_at s.z ≤ p.x
  pub before_east : p.x < (s.x + 1) * side_at s.z
  pub from_north : s.y * side_at s.z ≤ p.y
  pub before_south : p.y < (s.y + 1) * side_at s.z

-- two squares overlap where some whole point lies in both (the quadtree)
abbrev pub Overlap : Square → Square → Type 0
Overlap a b = (p : Point) × InSquare a p × InSquare b p

-- the stretches from a to before a + m and from b to before b + n have a number in common
abbrev pub stretches_meet : ℕ → ℕ → ℕ → ℕ → Bool
stretches_meet a m b n = nat_lt a (b + n) && nat_lt b (a + m)

-- the same as a test: the two squares' stretches of x meet, and so do those of y
abbrev pub squares_meet : Square → Square → Bool
squares_meet a b =
    stretches_meet (a.x * side_at a.z) (side_at a.z) (b.x * side_at b.z) (side_at b.z)
    && stretches_meet (a.y * side_at a.z) (side_at a.z) (b.y * side_at b.z) (side_at b.z)

-- a tile's square has its three numbers
abbrev pub tile_square : Tile → Square
tile_square t = record { z = t.z; x = t.x; y = t.y }

-- a metatile is 8 by 8 tiles, so its square lies three zooms higher; below zoom 3 it is the whole
-- world
abbrev pub meta_square : Meta → Square
meta_square m = if nat_le 3 m.z then record { z = m.z - 3; x = m.x / 8; y = m.y / 8 }
    else record { z = 0; x = 0; y = 0 }

-- the metatile of a tile: its column and row are cut to multiples of 8
abbrev pub meta_of : Tile → Meta
meta_of t = record { z = t.z; x = t.x / 8 * 8; y = t.y / 8 * 8 }

-- how many tiles a metatile has side by side: 8, or all that its zoom has
abbrev pub tiles_across : Meta → ℕ
tiles_across m = min 8 (2 ^ m.z)

-- the place of a tile in its metatile, by columns
abbrev pub index_place : Tile → ℕ
index_place t = (t.x % 8) * 8 + t.y % 8

-- whether tiles may be so many pixels wide and high: 16, 32, 64, 128, 256 or 512
abbrev pub is_tile_size : ℕ → Bool
is_tile_size n = n == 16 || n == 32 || n == 64 || n == 128 || n == 256 || n == 512

-- tiles may be so many pixels wide and high
abbrev pub IsTileSize : ℕ → Type 0
IsTileSize n = IsTrue (is_tile_size n)

-- the window of a tile of so many pixels
abbrev pub window_of : Tile → ℕ → Window
window_of t size = record {
  west = t.x * side_at t.z;
  north = t.y * side_at t.z;
  pixel = side_at t.z / size;
  cols = size;
  rows = size;
}

-- the window of a metatile whose tiles have so many pixels
abbrev pub meta_window_of : Meta → ℕ → Window
meta_window_of m size = record {
  west = m.x * side_at m.z;
  north = m.y * side_at m.z;
  pixel = side_at m.z / size;
  cols = size * tiles_across m;
  rows = size * tiles_across m;
}

-- what each window of a tile or a metatile keeps: at most 4,096 columns and rows of pixels, of 1 to
-- 2^26 units, within the world
pub record IsWindow (w : Window) : Type 0 where
  pub some_pixel : 1 ≤ w.pixel
  pub small_pixel : w.pixel ≤ 2 ^ 26
  pub some_col : 1 ≤ w.cols
  pub some_row : 1 ≤ w.rows
  pub few_cols : w.cols ≤ most_side
  pub few_rows : w.rows ≤ most_side
  pub east_fits : w.west + w.cols * w.pixel ≤ 2 ^ 30
  pub south_fits : w.north + w.rows * w.pixel ≤ 2 ^ 30

-- the centre of the pixel in column i and row j
abbrev pub centre : Window → ℕ → ℕ → Point
centre w i j =
    record { x = w.west + i * w.pixel + w.pixel / 2; y = w.north + j * w.pixel + w.pixel / 2 }

-- the centres of row j, from west to east
abbrev pub row_centres : Window → ℕ → List Point
row_centres w j = map (λ i. centre w i j) (range_with_len 0 w.cols)

-- the centres of all pixels, by rows
abbrev pub centres : Window → List Point
centres w = flat_map (λ j. row_centres w j) (range_with_len 0 w.rows)

-- The web Mercator world is 4007501668 centimetres wide, from -2003750834.
-- n centimetres from an edge of the world in units, rounded down; none past 2^30 units or before
-- the edge
abbrev pub units_from_edge : ℤ → Option ℕ
units_from_edge (negsuc n) = None
units_from_edge (pos n) = if nat_le (n * 2 ^ 30 / 4007501668) (2 ^ 30)
    then Some (n * 2 ^ 30 / 4007501668) else None

-- x of a Mercator coordinate in centimetres, to the east
abbrev pub x_from_cm : ℤ → Option ℕ
x_from_cm c = units_from_edge (c +ℤ pos 2003750834)

-- y of a Mercator coordinate in centimetres, which grows to the north
abbrev pub y_from_cm : ℤ → Option ℕ
y_from_cm c = units_from_edge (pos 2003750834 -ℤ c)
