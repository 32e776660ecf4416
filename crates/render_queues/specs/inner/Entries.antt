-- All that waits, in one list: keys in the order in which they came, each with its queue, or with
-- none where it has left.
use Rattle.std.specs.Prelude.{ℕ, ◌+◌, ◌*◌, Bool, false, List, map, filter, Option, Some, None, is_some}
use Rattle.farm_history.specs.declared.keys.Key.{Key}
use Rattle.farm_history.specs.declared.queues.Limits.{Limits}
use Rattle.farm_history.specs.declared.queues.Queue.{Queue}
use Rattle.farm_history.specs.Plans.{same_queue}
use Rattle.render_queues.specs.OneQueue.{Lines}

-- a key, and the queue in which it waits
abbrev pub Entry : Type 0
Entry = Key × Option Queue

-- whether what stands beside a key is that queue
abbrev pub is_there : Option Queue → Queue → Bool
is_there None queue = false
is_there (Some q) queue = same_queue q queue

-- the entries whose key waits
abbrev pub still_there : List Entry → List Entry
still_there es = filter (λ e. is_some e.1) es

-- the keys of a queue, in order
abbrev pub keys_in : Queue → List Entry → List Key
keys_in queue es = map (λ e. e.0) (filter (λ e. is_there e.1 queue) es)

-- the list as five queues
abbrev pub lines_in : Limits → List Entry → Lines
lines_in limits es = record {
  prio = record { keys = keys_in Queue.Prio es; limit = limits.prio };
  request = record { keys = keys_in Queue.Request es; limit = limits.request };
  low = record { keys = keys_in Queue.Low es; limit = limits.low };
  dirty = record { keys = keys_in Queue.Dirty es; limit = limits.dirty };
  bulk = record { keys = keys_in Queue.Bulk es; limit = limits.bulk };
}

-- how many may wait in all
abbrev pub room_of : Limits → ℕ
room_of limits = limits.prio + limits.request + limits.low + limits.dirty + limits.bulk

-- and twice as many, so that the entries move seldom
abbrev pub twice_room : Limits → ℕ
twice_room limits = 2 * room_of limits

-- the limits with another number for that queue
abbrev pub with_limit : Limits → Queue → ℕ → Limits
with_limit limits Queue.Prio n = record limits { prio = n }
with_limit limits Queue.Request n = record limits { request = n }
with_limit limits Queue.Low n = record limits { low = n }
with_limit limits Queue.Dirty n = record limits { dirty = n }
with_limit limits Queue.Bulk n = record limits { bulk = n }
