-- What waits, what is taken and what has ended, as plain lists.
use Rattle.std.specs.Prelude.{ℕ, ◌+◌, ◌≤◌, Bool, true, false, not, ◌==◌, ◌≡◌, if◌then◌else◌, List, [], ◌∷◌, ◌++◌, length, map, filter, count_by, slice_get, Option, Some, None, option_map}
use Rattle.std.specs.Option.{option_or}
use Rattle.farm_base.specs.Limits.{most_asks}
use Rattle.farm_history.specs.declared.keys.Key.{Key}
use Rattle.farm_history.specs.declared.queues.Conn.{Conn}
use Rattle.farm_history.specs.declared.queues.Limits.{Limits}
use Rattle.farm_history.specs.declared.queues.Outcome.{Outcome}
use Rattle.farm_history.specs.declared.queues.Queue.{Queue}
use Rattle.farm_history.specs.declared.queues.Reply.{Reply}
use Rattle.farm_history.specs.declared.queues.Waiter.{Waiter}
use Rattle.farm_history.specs.Plans.{Waits, same_key, same_conn, is_in}
use Rattle.render_queues.specs.OneQueue.{Line, Lines, no_line, without, line_without}
use Rattle.render_queues.specs.declared.asks.Asked.{Asked}
use Rattle.render_queues.specs.declared.standing.Standing.{Standing}
use Rattle.render_queues.specs.declared.standing.Standing.TheVariants.{Waits as InLine, Taken}

-- The tables: the five queues, and what is taken. Chains are seen in one list: each ask that waits,
-- with its key, in the order in which they came. Replies are in the order in which their drawings
-- ended, and those of one drawing in the order of its chain
pub record Tables : Type 0 where
  pub lines : Lines
  -- how many keys may be taken
  pub workers : ℕ
  -- the keys that are taken, in order
  pub taken : List Key
  pub asks : List Asked
  pub ended : List Reply

-- queues in which nothing waits
abbrev pub no_lines : Limits → Lines
no_lines limits = record {
  prio = no_line limits.prio;
  request = no_line limits.request;
  low = no_line limits.low;
  dirty = no_line limits.dirty;
  bulk = no_line limits.bulk;
}

-- tables in which nothing stands
abbrev pub no_tables : Limits → ℕ → Tables
no_tables limits workers = record {
  lines = no_lines limits;
  workers = workers;
  taken = [];
  asks = [];
  ended = [];
}

-- one of the queues
abbrev pub line_of : Lines → Queue → Line
line_of ls Queue.Prio = ls.prio
line_of ls Queue.Request = ls.request
line_of ls Queue.Low = ls.low
line_of ls Queue.Dirty = ls.dirty
line_of ls Queue.Bulk = ls.bulk

-- the queues with another line as that one
abbrev pub with_line : Lines → Queue → Line → Lines
with_line ls Queue.Prio l = record ls { prio = l }
with_line ls Queue.Request l = record ls { request = l }
with_line ls Queue.Low l = record ls { low = l }
with_line ls Queue.Dirty l = record ls { dirty = l }
with_line ls Queue.Bulk l = record ls { bulk = l }

-- the key goes last in that queue
abbrev pub with_last : Lines → Queue → Key → Lines
with_last ls queue key =
    with_line ls queue (record (line_of ls queue) { keys = (line_of ls queue).keys ++ key ∷ [] })

-- the key is out of that queue
abbrev pub cut_from : Lines → Queue → Key → Lines
cut_from ls queue key = with_line ls queue (line_without (line_of ls queue) key)

-- the key is out of the dirty and bulk queues
abbrev pub lifted_out : Lines → Key → Lines
lifted_out ls key = record ls { dirty = line_without ls.dirty key; bulk = line_without ls.bulk key }

-- the key is out of all queues
abbrev pub out_of_all : Lines → Key → Lines
out_of_all ls key = record {
  prio = line_without ls.prio key;
  request = line_without ls.request key;
  low = line_without ls.low key;
  dirty = line_without ls.dirty key;
  bulk = line_without ls.bulk key;
}

-- the first that waits in that queue
abbrev pub first_of : Lines → Queue → Option Waits
first_of ls queue =
    option_map (λ key. record { queue = queue; key = key }) (slice_get (line_of ls queue).keys 0)

-- what is taken next: the first of the first queue that is not empty, in renderd's order
abbrev pub next_of : Lines → Option Waits
next_of ls = option_or (first_of ls Queue.Prio) (option_or (first_of ls Queue.Request) (option_or
    (first_of ls Queue.Low) (option_or (first_of ls Queue.Dirty) (first_of ls Queue.Bulk))))

-- whether an ask waits for the key
abbrev pub waits_on : Key → Asked → Bool
waits_on key a = same_key a.key key

-- the chain of a key: the asks that wait for it, in order
abbrev pub chain_of : Tables → Key → List Waiter
chain_of t key = map (λ a. a.waiter) (filter (waits_on key) t.asks)

-- how many asks are open: those that wait, and those with a reply that has not been collected
abbrev pub open_count : Tables → ℕ
open_count t = length t.asks + length t.ended

-- where a key waits, if it does
abbrev pub waits_where : Lines → Key → Option Standing
waits_where ls key =
    if is_in key ls.prio.keys then Some (InLine Queue.Prio)
    else if is_in key ls.request.keys then Some (InLine Queue.Request)
    else if is_in key ls.low.keys then Some (InLine Queue.Low)
    else if is_in key ls.dirty.keys then Some (InLine Queue.Dirty)
    else if is_in key ls.bulk.keys then Some (InLine Queue.Bulk)
    else None

-- where a key stands, if it does
abbrev pub standing : Tables → Key → Option Standing
standing t key = if is_in key t.taken then Some Taken else waits_where t.lines key

-- the key goes last in that queue
abbrev pub after_place : Tables → Queue → Key → Tables
after_place t queue key = record t { lines = with_last t.lines queue key }

-- the asks, and last among them that of the waiter, if there is one
abbrev pub with_waiter : List Asked → Key → Option Waiter → List Asked
with_waiter asks key None = asks
with_waiter asks key (Some w) = asks ++ record { key = key; waiter = w } ∷ []

-- the waiter, if there is one, goes last in the chain of the key
abbrev pub after_join : Tables → Key → Option Waiter → Tables
after_join t key waiter = record t { asks = with_waiter t.asks key waiter }

-- whether what stands so can be lifted: it waits in the dirty or bulk queue
abbrev pub is_liftable : Option Standing → Bool
is_liftable (Some (InLine Queue.Dirty)) = true
is_liftable (Some (InLine Queue.Bulk)) = true
is_liftable _ = false

-- whether what is lifted may go to that queue
abbrev pub takes_lifted : Queue → Bool
takes_lifted Queue.Prio = true
takes_lifted Queue.Request = true
takes_lifted Queue.Low = true
takes_lifted _ = false

-- the key goes from the dirty or bulk queue to that one, last; its chain stays
abbrev pub after_lift : Tables → Queue → Key → Tables
after_lift t queue key = record t { lines = with_last (lifted_out t.lines key) queue key }

-- what is taken goes from its queue to the taken keys, last; its chain stays
abbrev pub after_take : Tables → Option Waits → Tables
after_take t None = t
after_take t (Some w) =
    record t { lines = cut_from t.lines w.queue w.key; taken = t.taken ++ w.key ∷ [] }

-- the reply to an ask that waited
abbrev pub reply_with : Outcome → Asked → Reply
reply_with outcome a = record { conn = a.waiter.conn; ask = a.waiter.ask; outcome = outcome }

-- the key is gone, and its chain becomes replies in its order
abbrev pub after_end : Tables → Key → Outcome → Tables
after_end t key outcome = record t {
  taken = without key t.taken;
  asks = filter (λ a. not (waits_on key a)) t.asks;
  ended = t.ended ++ map (reply_with outcome) (filter (waits_on key) t.asks);
}

-- whether a reply is for the front
abbrev pub is_of_front : ℕ → Reply → Bool
is_of_front front r = r.conn.front == front

-- whether an ask that waits is of the connection
abbrev pub asked_by : Conn → Asked → Bool
asked_by conn a = same_conn a.waiter.conn conn

-- whether a reply is for the connection
abbrev pub replies_to_conn : Conn → Reply → Bool
replies_to_conn conn r = same_conn r.conn conn

-- how many open asks the connection has
abbrev pub open_of : Tables → Conn → ℕ
open_of t conn = count_by (asked_by conn) t.asks + count_by (replies_to_conn conn) t.ended

-- the connection's asks and replies are gone; keys stay where they stand
abbrev pub after_leave : Tables → Conn → Tables
after_leave t conn = record t {
  asks = filter (λ a. not (asked_by conn a)) t.asks;
  ended = filter (λ r. not (replies_to_conn conn r)) t.ended;
}

-- how often the key is among the keys
abbrev pub how_often : Key → List Key → ℕ
how_often key keys = count_by (λ k. same_key k key) keys

-- how often the key waits
abbrev pub waits_often : Key → Lines → ℕ
waits_often key ls = how_often key ls.prio.keys + how_often key ls.request.keys
    + how_often key ls.low.keys + how_often key ls.dirty.keys + how_often key ls.bulk.keys

-- how often the key stands: taken, or in a queue
abbrev pub stands_often : Key → Tables → ℕ
stands_often key t = how_often key t.taken + waits_often key t.lines

-- how many asks wait for the key
abbrev pub chain_length : Key → Tables → ℕ
chain_length key t = count_by (waits_on key) t.asks

-- whether no more wait in the queue than may
abbrev pub IsWithin : Line → Type 0
IsWithin l = length l.keys ≤ l.limit

-- What is true of all tables: no key stands twice, what an ask waits for stands, no queue is past
-- its limit, no more are taken than there are workers, and at most 4,096 asks are open
pub record AreSound (t : Tables) : Type 0 where
  pub once : (key : Key) → stands_often key t ≤ 1
  pub awaited : (key : Key) → stands_often key t ≡ 0 → chain_length key t ≡ 0
  pub within : (queue : Queue) → IsWithin (line_of t.lines queue)
  pub few_taken : length t.taken ≤ t.workers
  pub few_asks : open_count t ≤ most_asks
