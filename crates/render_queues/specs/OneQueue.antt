-- One queue: keys in order; and the five queues.
use Rattle.std.specs.Prelude.{ℕ, Bool, not, nat_lt, List, [], length, filter}
use Rattle.farm_history.specs.declared.keys.Key.{Key}
use Rattle.farm_history.specs.Plans.{same_key}

-- a queue: its keys in order, and how many there may be
pub record Line : Type 0 where
  pub keys : List Key
  pub limit : ℕ

-- a queue in which nothing waits
abbrev pub no_line : ℕ → Line
no_line limit = record { keys = []; limit = limit }

-- whether a queue is below its limit
abbrev pub is_below : Line → Bool
is_below l = nat_lt (length l.keys) l.limit

-- the keys without that one
abbrev pub without : Key → List Key → List Key
without key keys = filter (λ k. not (same_key k key)) keys

-- a queue without the key
abbrev pub line_without : Line → Key → Line
line_without l key = record l { keys = without key l.keys }

-- the five queues
pub record Lines : Type 0 where
  pub prio : Line
  pub request : Line
  pub low : Line
  pub dirty : Line
  pub bulk : Line
