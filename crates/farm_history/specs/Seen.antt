-- What a farm may keep of its history: marks, drawings under way, and the asks that wait or have
-- ended.
use Rattle.std.specs.Prelude.{ℕ, Bool, false, ◌&&◌, not, ◌||◌, List, length, map, filter, find, Option, Some, None}
use Rattle.std.specs.Option.{option_and_then}
use Rattle.farm_history.specs.declared.keys.Key.{Key}
use Rattle.farm_history.specs.declared.keys.Mark.{Mark}
use Rattle.farm_history.specs.declared.queues.Queue.{Queue}
use Rattle.farm_history.specs.declared.queues.Waiter.{Waiter}
use Rattle.farm_history.specs.declared.queues.Reply.{Reply}
use Rattle.farm_history.specs.Entries.{Entry}
use Rattle.farm_history.specs.Plans.{Plan, Waits, same_key, same_queue}
use Rattle.farm_history.specs.Past.{Flight, flights, shown, version, is_touched_after, Numbered, open_asks, is_ended_after, replies_to}

-- the mark of a key that is shown, where before came before the Claim of what is shown: the version
-- then, and whether the key is clean
abbrev pub mark_at : Plan → List Entry → Key → Option (List Entry) → Option Mark
mark_at p h k None = None
mark_at p h k (Some before) =
    Some (record { version = version before; clean = not (is_touched_after p h (length before) k) })

-- the mark of a key: there is one exactly where the key is shown
abbrev pub mark_after : Plan → List Entry → Key → Option Mark
mark_after p h k = mark_at p h k (shown h k)

-- the mark that a table has of a key: that of the first row with the key
abbrev pub mark_in : {R : Type 0} → (R → Key) → (R → Option Mark) → List R → Key → Option Mark
mark_in key mark rows k = option_and_then mark (find (λ r. same_key k (key r)) rows)

-- whether there is a mark, and it is clean
abbrev pub is_clean_mark : Option Mark → Bool
is_clean_mark None = false
is_clean_mark (Some m) = m.clean

-- a mark after an entry that touches its key, or does not
abbrev pub dirtied : Bool → Mark → Mark
dirtied touching m = record { version = m.version; clean = not touching && m.clean }

-- a drawing under way, as it is kept: its ticket, its key, the version before its Claim, and
-- whether an entry after its Claim touches the key
pub record Taken : Type 0 where
  pub ticket : ℕ
  pub key : Key
  pub version : ℕ
  pub touched : Bool

-- the flight as it is kept
abbrev pub taken_of : Plan → List Entry → Flight → Taken
taken_of p h f = record {
  ticket = f.ticket;
  key = f.key;
  version = version f.before;
  touched = is_touched_after p h (length f.before) f.key;
}

-- a drawing under way after an entry that touches the keys which pass the test
abbrev pub overtaken_by : (Key → Bool) → Taken → Taken
overtaken_by touching t = record {
  ticket = t.ticket;
  key = t.key;
  version = t.version;
  touched = touching t.key || t.touched;
}

-- the drawings under way, in order
abbrev pub taken_after : Plan → List Entry → List Taken
taken_after p h = map (taken_of p h) (flights h)

-- whether an ask has no End yet
abbrev pub has_no_end : List Entry → Numbered → Bool
has_no_end h a = not (is_ended_after h (length a.before) a.key)

-- the open asks that wait, of whatever key, in order
abbrev pub waiting_asks : List Entry → List Numbered
waiting_asks h = filter (has_no_end h) (open_asks h)

-- whether an open ask waits for the key: it is on the key and has no End
abbrev pub is_waiter : List Entry → Key → Numbered → Bool
is_waiter h k a = same_key a.key k && not (is_ended_after h (length a.before) a.key)

-- an open ask as it is kept: its connection and its number
abbrev pub waiter_of : Numbered → Waiter
waiter_of a = record { conn = a.conn; ask = a.number }

-- the open asks that wait for the key, in order
abbrev pub asks_on : List Entry → Key → List Numbered
asks_on h k = filter (is_waiter h k) (open_asks h)

-- the chain of a key that waits or is being drawn
abbrev pub chain_after : List Entry → Key → List Waiter
chain_after h k = map waiter_of (asks_on h k)

-- the replies that wait to be collected, in order
abbrev pub outbox : List Entry → List Reply
outbox h = replies_to (open_asks h) h

-- those of the list that wait in a queue, in order
abbrev pub in_queue : Queue → List Waits → List Waits
in_queue queue ws = filter (λ w. same_queue w.queue queue) ws
