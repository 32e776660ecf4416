-- Which pixel of a grid holds a centre.
use Rattle.std.specs.Prelude.{◌≡◌, ℕ, ◌-◌, ◌/◌, ◌<◌, ◌≤◌, min, nat_le, if◌then◌else◌, List, length, map, get_or}
use Rattle.std.specs.List.{range_with_len}
use Rattle.plain_world.specs.declared.world.Point.{Point}
use Rattle.plain_world.specs.declared.world.Window.{Window}
use Rattle.plain_world.specs.World.{centre}
use Rattle.plain_drawing.specs.Grids.{Grid}

-- the place of v among so many pixels from an edge on, and their number where it lies in none of
-- them
unfoldable pub place_in : ℕ → ℕ → ℕ → ℕ → ℕ
place_in edge pixel count v = if nat_le edge v then min ((v - edge) / pixel) count else count

-- the grid's column of a point, and its row
abbrev pub column_at : Grid → Point → ℕ
column_at g c = place_in g.west g.pixel g.cols c.x

abbrev pub row_at : Grid → Point → ℕ
row_at g c = place_in g.north g.pixel g.rows c.y

-- from a place on and before another one, which lies behind it, the list has the same number
pub record IsRun (places : List ℕ) (from end : ℕ) : Type 0 where
  pub after : from < end
  pub within : end ≤ length places
  pub same : (k : ℕ) → from ≤ k → k < end → get_or places k 0 ≡ get_or places from 0

-- the columns of the grid under those of the window, and for each of these the end of a run of them
-- that lie in one
pub record IsColumns (w : Window) (g : Grid) (columns ends : List ℕ) : Type 0 where
  pub are : columns ≡ map (λ i. column_at g (centre w i 0)) (range_with_len 0 w.cols)
  pub long : length ends ≡ length columns
  pub runs : (i : ℕ) → i < length columns → IsRun columns i (get_or ends i 0)
