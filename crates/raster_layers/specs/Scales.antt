-- A grid that is drawn at its own scale.
use Rattle.std.specs.Prelude.{◌≡◌, ◌≤◌, ◌⊎◌, ℕ, ◌+◌, ◌*◌, ◌&&◌, nat_le, if◌then◌else◌, Some, Result, Ok, Err}
use Rattle.plain_world.specs.declared.world.Window.{Window}
use Rattle.plain_shapes.specs.declared.colour.Colour.{Colour}
use Rattle.plain_world.specs.World.{centre}
use Rattle.plain_drawing.specs.Grids.{Grid, pixel_at, grid_at}
use Rattle.raster_layers.specs.declared.grids.GridFault.{GridFault}
use Rattle.raster_layers.specs.declared.grids.GridFault.TheVariants.{Size}
use Rattle.plain_drawing.specs.Limits.{most_grid_side}

-- a grid, unless a side is over 1,024
abbrev pub grid_or_fault : Grid → Result Grid GridFault
grid_or_fault g = if nat_le g.cols most_grid_side && nat_le g.rows most_grid_side then Ok g
    else Err Size

-- the numbers differ by a multiple of p
abbrev pub DifferBy : ℕ → ℕ → ℕ → Type 0
DifferBy p a b = ((k : ℕ) × (b ≡ a + k * p)) ⊎ ((k : ℕ) × (a ≡ b + k * p))

-- the grid's pixels have the window's side, and its west and north edges differ from the window's
-- by multiples of it
pub record IsSameScale (g : Grid) (w : Window) : Type 0 where
  pub pixel : g.pixel ≡ w.pixel
  pub west : DifferBy w.pixel g.west w.west
  pub north : DifferBy w.pixel g.north w.north

-- column col and row row of the grid lie where column i and row j of the window do
pub record IsSamePlace (g : Grid) (w : Window) (i j col row : ℕ) : Type 0 where
  pub west : g.west + col * w.pixel ≡ w.west + i * w.pixel
  pub north : g.north + row * w.pixel ≡ w.north + j * w.pixel

-- each centre of the window that the grid holds has the grid's pixel of the same place
abbrev pub LawSameScale : Type 0
LawSameScale =
    (g : Grid) (w : Window) → 1 ≤ w.pixel → IsSameScale g w → (i j : ℕ) (c : Colour)
    → grid_at g (centre w i j) ≡ Some c
    → (col : ℕ) × (row : ℕ) × IsSamePlace g w i j col row × (pixel_at g col row ≡ Some c)
