-- What the answer to an ask depends on, as a record of tests, and the answer by them. Words of
-- inner contracts and of proofs.
use Rattle.std.specs.Prelude.{ℕ, Bool, ◌&&◌, ◌||◌, not, nat_le, if◌then◌else◌, List, length}
use Rattle.farm_base.specs.Limits.{most_asks, most_asks_of_one}
use Rattle.farm_history.specs.declared.queues.Conn.{Conn}
use Rattle.farm_history.specs.declared.queues.Queue.{Queue}
use Rattle.farm_history.specs.declared.asks.Cmd.{Cmd}
use Rattle.farm_history.specs.declared.asks.Spot.{Spot}
use Rattle.farm_history.specs.declared.asks.Why.TheVariants.{Stopping, Unservable, Backlog, Overtaken, InDirty, Deferred, Dropped}
use Rattle.farm_history.specs.declared.asks.AskAnswer.{AskAnswer}
use Rattle.farm_history.specs.declared.asks.AskAnswer.TheVariants.{Queued, Joined, Lifted, NotDone}
use Rattle.farm_history.specs.Entries.{Entry}
use Rattle.farm_history.specs.Plans.{Plan, key_of, is_servable, is_lifting, own_queue, waits_in_queue, has_room}
use Rattle.farm_history.specs.Past.{is_stopped, flies, is_clean, is_overtaken, waiting, waits, open_asks, how_many_of}

-- what the answer to such an ask depends on
pub record Tests : Type 0 where
  -- a Stop came
  pub stopped : Bool
  -- the spot can be served
  pub servable : Bool
  -- its metatile is clean
  pub clean : Bool
  -- the connection has 64 open asks, or 4,096 are open in all
  pub backlog : Bool
  -- the metatile is being drawn and was touched after that drawing's Claim
  pub overtaken : Bool
  -- it is being drawn
  pub flies : Bool
  -- it waits in the dirty or bulk queue, and the command is Prio, Render or Low
  pub liftable : Bool
  -- it waits in the dirty queue
  pub in_dirty : Bool
  -- it waits
  pub waits : Bool
  -- the command's own queue is below its limit
  pub own_room : Bool
  -- the dirty queue is below its limit
  pub dirty_room : Bool

-- the answer where the metatile is not being drawn, by the first line that holds; n is the number
-- of the ask
unfoldable pub answer_of_waiting : Bool → Bool → Bool → Bool → Bool → ℕ → AskAnswer
answer_of_waiting liftable in_dirty waits own_room dirty_room n =
    if liftable && own_room then Lifted n
    else if in_dirty then NotDone InDirty
    else if waits then Joined n
    else if own_room then Queued n
    else if dirty_room then NotDone Deferred
    else NotDone Dropped

-- the answer, by the first line that holds
unfoldable pub answer_by : Tests → ℕ → AskAnswer
answer_by t n =
    if t.stopped then NotDone Stopping
    else if not t.servable then NotDone Unservable
    else if t.clean then AskAnswer.Done
    else if t.backlog then NotDone Backlog
    else if t.overtaken then NotDone Overtaken
    else if t.flies then Joined n
    else answer_of_waiting t.liftable t.in_dirty t.waits t.own_room t.dirty_room n

-- the tests of an ask after the history
abbrev pub tests_of : Plan → List Entry → Conn → Cmd → Spot → Tests
tests_of p g conn command spot = record {
  stopped = is_stopped g;
  servable = is_servable p spot;
  clean = is_clean p g (key_of spot);
  backlog = nat_le most_asks_of_one (how_many_of conn (open_asks g))
      || nat_le most_asks (length (open_asks g));
  overtaken = is_overtaken p g (key_of spot);
  flies = flies g (key_of spot);
  liftable = is_lifting command && (waits_in_queue (waiting p g) Queue.Dirty (key_of spot)
      || waits_in_queue (waiting p g) Queue.Bulk (key_of spot));
  in_dirty = waits_in_queue (waiting p g) Queue.Dirty (key_of spot);
  waits = waits p g (key_of spot);
  own_room = has_room p.limits (own_queue command) (waiting p g);
  dirty_room = has_room p.limits Queue.Dirty (waiting p g);
}
