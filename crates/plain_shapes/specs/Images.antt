-- Masks and images as lists: one bit or one colour for each pixel, row by row. An image is also
-- what a PPM text holds.
use Rattle.std.specs.Prelude.{◌≡◌, ℕ, ◌*◌, ◌≤◌, Bool, List}
use Rattle.plain_world.specs.Limits.{most_side}
use Rattle.plain_shapes.specs.declared.colour.Colour.{Colour}

-- a mask: how many columns and rows it has, and for each pixel whether it is covered, row by row
pub record Bits : Type 0 where
  pub cols : ℕ
  pub rows : ℕ
  pub bits : List Bool

-- an image: how many columns and rows it has, and the colour of each pixel, row by row
pub record Pixels : Type 0 where
  pub cols : ℕ
  pub rows : ℕ
  pub pixels : List Colour

-- sides that a mask or an image may have: 1 to 4,096
pub record IsSides (cols rows : ℕ) : Type 0 where
  pub some_col : 1 ≤ cols
  pub few_cols : cols ≤ most_side
  pub some_row : 1 ≤ rows
  pub few_rows : rows ≤ most_side

-- such sides, and as many pixels as they make
pub record IsRaster (cols rows count : ℕ) : Type 0 where
  pub some_col : 1 ≤ cols
  pub few_cols : cols ≤ most_side
  pub some_row : 1 ≤ rows
  pub few_rows : rows ≤ most_side
  pub count_is : count ≡ rows * cols
