-- Regions of a window: so many columns from a column on, and so many rows from a row on.
use Rattle.std.specs.Prelude.{◌≡◌, ℕ, ◌+◌, ◌-◌, ◌*◌, ◌^◌, ◌<◌, ◌≤◌, min, Bool, true, false, if◌then◌else◌, List, take, slice_index_or}
use Rattle.plain_world.specs.declared.world.Point.{Point}
use Rattle.plain_world.specs.declared.world.Window.{Window}
use Rattle.plain_shapes.specs.declared.colour.Colour.{Colour}
use Rattle.plain_drawing.specs.declared.style.Symbolizer.{Symbolizer}
use Rattle.plain_world.specs.World.{centre, centres}
use Rattle.plain_shapes.specs.Features.{Feature}
use Rattle.plain_shapes.specs.Blending.{blend}
use Rattle.plain_shapes.specs.Images.{Pixels}
use Rattle.plain_shapes.specs.inner.Canvas.{at_centres}
use Rattle.plain_drawing.specs.Drawing.{covers}
use Rattle.geo_model.specs.declared.bounds.Bounds.{Bounds}
use Rattle.drawing_reach.specs.inner.Spreads.{Beside}
use Rattle.tile_render.specs.declared.regions.Region.{Region}
use Rattle.plain_shapes.specs.Limits.{most_width}

-- the region lies in the window, and has a column and a row at least
pub record IsRegion (w : Window) (r : Region) : Type 0 where
  pub some_col : 1 ≤ r.cols
  pub some_row : 1 ≤ r.rows
  pub in_cols : r.col + r.cols ≤ w.cols
  pub in_rows : r.row + r.rows ≤ w.rows

-- the region has the pixel in column i and row j of the window
pub record InRegion (r : Region) (i j : ℕ) : Type 0 where
  pub from_col : r.col ≤ i
  pub to_col : i < r.col + r.cols
  pub from_row : r.row ≤ j
  pub to_row : j < r.row + r.rows

-- the region as a window of its own, whose centres are those of the window
abbrev pub region_window : Window → Region → Window
region_window w r = record {
  west = w.west + r.col * w.pixel;
  north = w.north + r.row * w.pixel;
  pixel = w.pixel;
  cols = r.cols;
  rows = r.rows;
}

-- the region has every pixel of the window whose centre is a member
pub record Holds (w : Window) (r : Region) (member : Point → Bool) : Type 0 where
  pub at : (j i : ℕ) → i < w.cols → j < w.rows → member (centre w i j) ≡ true → InRegion r i j

-- the region has every pixel of the window whose centre the symbolizer covers on the feature
abbrev pub HoldsCovered : Window → Region → Feature → Symbolizer → Type 0
HoldsCovered w r f s = Holds w r (λ c. covers w.pixel f.geometry c s)

-- the bits say which of the region's pixels have a member as their centre, and no other pixel of
-- the window has
pub record Tells (w : Window) (r : Region) (member : Point → Bool) (bits : List Bool) : Type 0 where
  pub at : (j i : ℕ) → j < r.rows → i < r.cols
      → slice_index_or bits (j * r.cols + i) false ≡ member (centre w (r.col + i) (r.row + j))
  pub holds : Holds w r member

-- no centre of the window lies in the rectangle
abbrev pub HasNoCentre : Window → Bounds → Type 0
HasNoCentre w b = (j i : ℕ) → i < w.cols → j < w.rows → Beside b 0 0 (centre w i j) → ⊥

-- the colour painted over at a member, and as it was elsewhere
abbrev pub over_member : (Point → Bool) → Colour → ℕ → Point → Colour → Colour
over_member member colour opacity c d = if member c then blend colour opacity d else d

-- the picture now is that of the start with the first n pixels changed by their centres
pub record Changed (f : Point → Colour → Colour) (w : Window) (n : ℕ)
    (start now : Pixels) : Type 0 where
  pub is : now ≡ record start { pixels = at_centres f (take n (centres w)) start.pixels }

-- the window's rectangle widened by 64 pixels on each side, and cut to the world
abbrev pub around : Window → Bounds
around w = record {
  west = w.west - most_width * w.pixel;
  north = w.north - most_width * w.pixel;
  east = min (w.west + w.cols * w.pixel + most_width * w.pixel) (2 ^ 30);
  south = min (w.north + w.rows * w.pixel + most_width * w.pixel) (2 ^ 30);
}
