-- How many metatiles may wait in each queue. Code that keeps to the greatest numbers cites the
-- constants of the same names.
use Rattle.std.specs.Prelude.{ℕ, ◌≤◌}
use Rattle.farm_history.specs.declared.queues.Limits.{Limits}

-- the most metatiles that wait in each queue but that of the dirty ones, as in renderd
abbrev pub most_waiting : ℕ
most_waiting = 32

-- the most metatiles that wait as dirty ones, as in renderd
abbrev pub most_dirty : ℕ
most_dirty = 1000

-- from 1 to so many
pub record IsFrom1 (n most : ℕ) : Type 0 where
  pub some : 1 ≤ n
  pub few : n ≤ most

-- limits of which each is from 1 to its greatest
pub record AreLimits (l : Limits) : Type 0 where
  pub prio : IsFrom1 l.prio most_waiting
  pub request : IsFrom1 l.request most_waiting
  pub low : IsFrom1 l.low most_waiting
  pub dirty : IsFrom1 l.dirty most_dirty
  pub bulk : IsFrom1 l.bulk most_waiting
