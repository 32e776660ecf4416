-- Crossings in order, and the runs of members between them.
use Rattle.std.specs.Prelude.{◌≡◌, ℕ, ◌+◌, ◌*◌, ◌<◌, ◌≤◌, Bool, true, false, List, length, take, get_or}
use Rattle.std.specs.List.Sorted.{IsNonDecreasing}
use Rattle.plain_world.specs.declared.world.Point.{Point}
use Rattle.plain_world.specs.declared.world.Window.{Window}
use Rattle.plain_world.specs.World.{centre}
use Rattle.raster_core.specs.declared.runs.Run.{Run}
use Rattle.raster_core.specs.inner.Toggles.{parity_at, AllInside}

-- the places in order, whose parities say which of the window's centres are members
pub record Crossings (w : Window) (member : Point → Bool) (places : List ℕ) : Type 0 where
  pub inside : AllInside w places
  pub order : IsNonDecreasing places
  pub tells : (j i : ℕ) → j < w.rows → i < w.cols
      → member (centre w i j) ≡ parity_at w.cols places j i

-- the first k crossings are done with: the others lie from place n on, and there the parity of the
-- first k is even
pub record Done (w : Window) (places : List ℕ) (k n : ℕ) : Type 0 where
  pub fits : k ≤ length places
  pub rest : (d : ℕ) → k < length places → n ≤ get_or places k d
  pub even : (j i : ℕ) → i < w.cols → n ≤ j * w.cols + i
      → parity_at w.cols (take k places) j i ≡ false

-- past the places before n, the next members are those of a run: none before it, all of it, and
-- then it is done with
pub record IsNext (w : Window) (member : Point → Bool) (places : List ℕ) (n : ℕ)
    (r : Run) : Type 0 where
  pub from : n ≤ r.row * w.cols + r.start
  pub before : (j i : ℕ) → i < w.cols → j < w.rows → n ≤ j * w.cols + i
      → j * w.cols + i < r.row * w.cols + r.start → member (centre w i j) ≡ false
  pub within : (i : ℕ) → r.start ≤ i → i < r.end → member (centre w i r.row) ≡ true
  pub past : Done w places r.next (r.row * w.cols + r.end)
