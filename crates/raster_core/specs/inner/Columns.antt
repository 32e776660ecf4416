-- Columns that run down from corners, and all crossings: those that are listed as places, and those
-- of columns.
use Rattle.std.specs.Prelude.{◌≡◌, ℕ, ◌<◌, Bool, not, ◌&&◌, nat_le, List, count_by}
use Rattle.plain_world.specs.declared.world.Point.{Point}
use Rattle.plain_world.specs.declared.world.Window.{Window}
use Rattle.plain_world.specs.World.{centre}
use Rattle.plain_shapes.specs.Rings.{is_odd}
use Rattle.raster_core.specs.declared.columns.Corner.{Corner}
use Rattle.raster_core.specs.declared.columns.ColumnRun.{ColumnRun}
use Rattle.raster_core.specs.declared.columns.Crossed.{Crossed}
use Rattle.raster_core.specs.inner.Toggles.{flip, parity_at, AllInside}

-- the corner of a column and a row
abbrev pub corner : ℕ → ℕ → Corner
corner column row = record { column = column; row = row }

-- the corner lies in row j or above it, and in column i or west of it
abbrev pub is_past : ℕ → ℕ → Corner → Bool
is_past j i c = nat_le c.row j && nat_le c.column i

-- whether an odd number of the corners does
abbrev pub odd_corners : List Corner → ℕ → ℕ → Bool
odd_corners corners j i = is_odd (count_by (is_past j i) corners)

-- whether row j has the column of the run up to column i
abbrev pub in_run : ColumnRun → ℕ → ℕ → Bool
in_run run j i = (nat_le run.top j && not (nat_le run.bottom j)) && nat_le run.column i

-- whether row j has an odd number of crossings up to column i
abbrev pub parity_of : Window → Crossed → ℕ → ℕ → Bool
parity_of w crossed j i =
    flip (odd_corners crossed.corners.items j i) (parity_at w.cols crossed.places.items j i)

-- which pixels of the rows from one on and before another have a member as their centre
abbrev pub in_part : Window → (Point → Bool) → ℕ → ℕ → ℕ → ℕ → Bool
in_part w member from to j i = (nat_le from j && not (nat_le to j)) && member (centre w i j)

-- the parities of the corners are turned round exactly at the members, pixels by row and column
pub record CornersTurned (w : Window) (member : ℕ → ℕ → Bool) (old new : List Corner) : Type 0 where
  pub at : (j i : ℕ) → j < w.rows → i < w.cols
      → odd_corners new j i ≡ flip (member j i) (odd_corners old j i)

-- each parity is turned round exactly at the members, pixels by row and column
pub record PartTurned (w : Window) (member : ℕ → ℕ → Bool) (old new : Crossed) : Type 0 where
  pub inside : AllInside w old.places.items → AllInside w new.places.items
  pub at : (j i : ℕ) → j < w.rows → i < w.cols
      → parity_of w new j i ≡ flip (member j i) (parity_of w old j i)

-- each parity is turned round exactly where the pixel's centre is a member
pub record Turned (w : Window) (member : Point → Bool) (old new : Crossed) : Type 0 where
  pub inside : AllInside w old.places.items → AllInside w new.places.items
  pub at : (j i : ℕ) → j < w.rows → i < w.cols
      → parity_of w new j i ≡ flip (member (centre w i j)) (parity_of w old j i)

-- each parity stays
pub record SameTurns (w : Window) (old new : Crossed) : Type 0 where
  pub inside : AllInside w old.places.items → AllInside w new.places.items
  pub at : (j i : ℕ) → j < w.rows → i < w.cols → parity_of w new j i ≡ parity_of w old j i

-- the places have the parities of all crossings
pub record Lists (w : Window) (crossed : Crossed) (places : List ℕ) : Type 0 where
  pub inside : AllInside w crossed.places.items → AllInside w places
  pub at : (j i : ℕ) → j < w.rows → i < w.cols
      → parity_at w.cols places j i ≡ parity_of w crossed j i

-- the new parities, turned round at the members that are left, are the old ones turned round at all
-- members
pub record Remains (w : Window) (left whole : Point → Bool) (old new : Crossed) : Type 0 where
  pub inside : AllInside w old.places.items → AllInside w new.places.items
  pub at : (j i : ℕ) → j < w.rows → i < w.cols → flip (left (centre w i j)) (parity_of w new j i)
      ≡ flip (whole (centre w i j)) (parity_of w old j i)
