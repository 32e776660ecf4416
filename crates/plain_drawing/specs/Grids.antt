-- Grids: pictures that lie on the world.
use Rattle.std.specs.Prelude.{ℕ, ◌+◌, ◌-◌, ◌*◌, ◌/◌, ◌≡◌, ◌≤◌, ◌&&◌, nat_le, nat_lt, if◌then◌else◌, List, length, slice_index, Option, Some, None}
use Rattle.plain_world.specs.declared.world.Point.{Point}
use Rattle.plain_shapes.specs.declared.colour.Colour.{Colour}
use Rattle.plain_drawing.specs.Limits.{most_grid_side}

-- a grid: its name, its west and north edge, the side of its pixels, its columns and rows, and
-- three bytes a pixel by rows
pub record Grid : Type 0 where
  pub name : List ℕ
  pub west : ℕ
  pub north : ℕ
  pub pixel : ℕ
  pub cols : ℕ
  pub rows : ℕ
  pub bytes : List ℕ

-- what every grid keeps: sides of 1 to 1,024 pixels, pixels of 1 unit or more, three bytes for each
pub record IsGrid (pixel cols rows : ℕ) (bytes : List ℕ) : Type 0 where
  pub some_pixel : 1 ≤ pixel
  pub some_col : 1 ≤ cols
  pub some_row : 1 ≤ rows
  pub few_cols : cols ≤ most_grid_side
  pub few_rows : rows ≤ most_grid_side
  pub three_each : length bytes ≡ 3 * (rows * cols)

-- the colour at a place among pixels of three bytes
abbrev pub colour_in : List ℕ → ℕ → Colour
colour_in bytes place = record {
  r = slice_index bytes (3 * place);
  g = slice_index bytes (3 * place + 1);
  b = slice_index bytes (3 * place + 2);
}

-- the colour of the pixel in this column and row, if the grid has it
abbrev pub pixel_at : Grid → ℕ → ℕ → Option Colour
pixel_at g col row = if nat_lt col g.cols && nat_lt row g.rows
    then Some (colour_in g.bytes (row * g.cols + col)) else None

-- the colour of the grid's pixel that holds the point, none outside its columns and rows
abbrev pub grid_at : Grid → Point → Option Colour
grid_at g c = if nat_le g.west c.x && nat_le g.north c.y
    then pixel_at g ((c.x - g.west) / g.pixel) ((c.y - g.north) / g.pixel) else None
