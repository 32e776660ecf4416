-- What each event makes of a farm's counts, its queues and its drawings under way, and what the
-- farm itself tells of an ask.
use Rattle.std.specs.Prelude.{ℕ, ◌+◌, Bool, true, false, ◌&&◌, ◌||◌, not, ◌==◌, nat_le, if◌then◌else◌, List, [], length, map, filter, find, Option, Some, None, is_some}
use Rattle.std.specs.List.{list_any}
use Rattle.farm_base.specs.Limits.{most_asks, most_asks_of_one}
use Rattle.farm_history.specs.declared.keys.Key.{Key}
use Rattle.farm_history.specs.declared.queues.Conn.{Conn}
use Rattle.farm_history.specs.declared.queues.Queue.{Queue}
use Rattle.farm_history.specs.declared.queues.Waiter.{Waiter}
use Rattle.farm_history.specs.declared.queues.Reply.{Reply}
use Rattle.farm_history.specs.declared.asks.Cmd.{Cmd}
use Rattle.farm_history.specs.declared.asks.Spot.{Spot}
use Rattle.farm_history.specs.declared.asks.Why.TheVariants.{Deferred}
use Rattle.farm_history.specs.declared.asks.AskAnswer.{AskAnswer}
use Rattle.farm_history.specs.declared.asks.AskAnswer.TheVariants.{Queued, Joined, Lifted, NotDone}
use Rattle.farm_history.specs.declared.answers.ClaimAnswer.{ClaimAnswer}
use Rattle.farm_history.specs.declared.answers.ClaimAnswer.TheVariants.{Crowded}
use Rattle.farm_history.specs.declared.answers.Looked.{Looked}
use Rattle.farm_history.specs.declared.answers.Collected.{Collected}
use Rattle.farm_history.specs.declared.answers.Tally.{Tally}
use Rattle.farm_history.specs.declared.keys.Mark.{Mark}
use Rattle.farm_history.specs.Plans.{key_of, is_in, is_servable, is_dirty_command, is_lifting, own_queue, same_key}
use Rattle.farm_history.specs.Past.{number_in, is_done_answer, is_done}
use Rattle.farm_history.specs.Rules.{job_of}
use Rattle.farm_history.specs.inner.Asks.{Tests}
use Rattle.farm_history.specs.Seen.{Taken, overtaken_by, is_clean_mark}
use Rattle.farm_history.specs.Replays.{Saving}
use Rattle.farm_plan.specs.Plans.{FarmPlan}
use Rattle.farm_plan.specs.Drawings.{plan_of}
use Rattle.render_queues.specs.OneQueue.{is_below}
use Rattle.render_queues.specs.Tables.{Tables, no_tables, line_of, next_of, open_of, open_count, after_place, after_join, after_lift, is_of_front}
use Rattle.expiry_lists.specs.Marks.{MarksSeen, mark_of}
use Rattle.farm_refinement.specs.declared.counts.Counts.{Counts}
use Rattle.farm_refinement.specs.Seen.{FarmSeen}

-- ---- the beginning

-- nothing is counted yet
abbrev pub no_counts : Counts
no_counts = record {
  turns = 0;
  stopped = false;
  version = 0;
  numbers = 0;
  jobs = 0;
  asks = 0;
  done = 0;
  stored = 0;
}

-- a farm as it begins, over a store, with these styles' numbers and marks
abbrev pub new_farm : {D : Type 0} → FarmPlan → Option Saving → D → List (Option ℕ) → MarksSeen
    → FarmSeen D
new_farm plan saved store st ms = record {
  plan = plan;
  saved = saved;
  first = store;
  store = store;
  counts = no_counts;
  data_now = plan.dataset;
  changes = [];
  styled = st;
  taken = [];
  marks = ms;
  queues = no_tables plan.limits plan.workers;
}

-- one more call
abbrev pub one_turn_more : Counts → Counts
one_turn_more c = record c { turns = c.turns + 1 }

-- ---- asks

-- an ask with that command and answer
abbrev pub asked_counts : Cmd → AskAnswer → Counts → Counts
asked_counts command answer c = record c {
  turns = c.turns + 1;
  numbers = if is_some (number_in answer) then c.numbers + 1 else c.numbers;
  asks = if is_dirty_command command then c.asks else c.asks + 1;
  done = if is_done_answer answer then c.done + 1 else c.done;
}

-- whether the key waits in one of the queues
abbrev pub waits_at : Tables → Key → Bool
waits_at t k = is_in k t.lines.prio.keys || (is_in k t.lines.request.keys
    || (is_in k t.lines.low.keys || (is_in k t.lines.dirty.keys || is_in k t.lines.bulk.keys)))

-- the tests of an ask, by what the farm keeps
abbrev pub tests_at : {D : Type 0} → FarmSeen D → Conn → Cmd → Spot → Tests
tests_at farm conn command spot = record {
  stopped = farm.counts.stopped;
  servable = is_servable (plan_of farm.plan) spot;
  clean = is_clean_mark (mark_of farm.marks.shown (key_of spot));
  backlog = nat_le most_asks_of_one (open_of farm.queues conn)
      || nat_le most_asks (open_count farm.queues);
  overtaken = list_any (λ (x : Taken). same_key x.key (key_of spot) && x.touched) farm.taken;
  flies = is_in (key_of spot) farm.queues.taken;
  liftable = is_lifting command && (is_in (key_of spot) farm.queues.lines.dirty.keys
      || is_in (key_of spot) farm.queues.lines.bulk.keys);
  in_dirty = is_in (key_of spot) farm.queues.lines.dirty.keys;
  waits = waits_at farm.queues (key_of spot);
  own_room = is_below (line_of farm.queues.lines (own_queue command));
  dirty_room = is_below farm.queues.lines.dirty;
}

-- an ask that waits, of a connection and with its number
abbrev pub waiter : Conn → ℕ → Waiter
waiter conn n = record { conn = conn; ask = n }

-- the tables after an ask with that answer
abbrev pub asked_tables : Tables → Queue → Key → Conn → AskAnswer → Tables
asked_tables t own k conn (Queued n) = after_join (after_place t own k) k (Some (waiter conn n))
asked_tables t own k conn (Joined n) = after_join t k (Some (waiter conn n))
asked_tables t own k conn (Lifted n) = after_join (after_lift t own k) k (Some (waiter conn n))
asked_tables t own k conn (NotDone Deferred) = after_place t Queue.Dirty k
asked_tables t own k conn _ = t

-- the key goes last in the dirty queue where it has room
abbrev pub with_dirty : Tables → Key → Tables
with_dirty t k = if is_below t.lines.dirty then after_place t Queue.Dirty k else t

-- the tables after an ask with Dirty that touches its key: one that stands nowhere goes to the
-- dirty queue
abbrev pub marked_tables : Tables → Key → Tables
marked_tables t k = if waits_at t k || is_in k t.taken then t else with_dirty t k

-- ---- claims and their ends

-- a claim that was answered with a job
abbrev pub claimed_counts : Counts → Counts
claimed_counts c = record c { turns = c.turns + 1; jobs = c.jobs + 1 }

-- what a claim is answered, by what the farm keeps
abbrev pub claim_at : {D : Type 0} → FarmSeen D → ClaimAnswer
claim_at farm =
    if farm.counts.stopped then ClaimAnswer.Stopped
    else if length farm.queues.taken == farm.queues.workers then Crowded
    else job_of (next_of farm.queues.lines) farm.counts.jobs farm.counts.version

-- a drawing that is claimed now
abbrev pub new_flight : ℕ → Key → ℕ → Taken
new_flight ticket k version = record {
  ticket = ticket;
  key = k;
  version = version;
  touched = false;
}

-- the drawing under way with that ticket
abbrev pub taken_at : List Taken → ℕ → Option Taken
taken_at taken ticket = find (λ (x : Taken). x.ticket == ticket) taken

-- the drawings under way without that ticket
abbrev pub untaken : ℕ → List Taken → List Taken
untaken ticket taken = filter (λ (x : Taken). not (x.ticket == ticket)) taken

-- a drawing that was stored
abbrev pub stored_counts : Counts → Counts
stored_counts c = record c { turns = c.turns + 1; stored = c.stored + 1 }

-- where a drawing was stored dirty its key goes to the dirty queue
abbrev pub stale_tables : Bool → Tables → Key → Tables
stale_tables true t k = t
stale_tables false t k = with_dirty t k

-- ---- updates and styles

-- an update that succeeded
abbrev pub updated_counts : Counts → Counts
updated_counts c = record c { turns = c.turns + 1; version = c.version + 1 }

-- the drawings under way after an event that touches the keys which pass the test
abbrev pub dirtied_taken : (Key → Bool) → List Taken → List Taken
dirtied_taken test taken = map (overtaken_by test) taken

-- a kept key that is asked for, claimed, stored and collected in a replay
abbrev pub replayed_counts : Counts → Counts
replayed_counts c = record c {
  turns = c.turns + 4;
  numbers = c.numbers + 1;
  jobs = c.jobs + 1;
  asks = c.asks + 1;
  done = c.done + 1;
  stored = c.stored + 1;
}

-- ---- reads and replies

-- how a key with that mark stands
abbrev pub looked_by : Option Mark → Looked
looked_by None = Looked.Missing
looked_by (Some m) = if m.clean then Looked.Clean m.version else Looked.Dirty m.version

-- what a look is answered, by what the farm keeps
abbrev pub look_at : {D : Type 0} → FarmSeen D → Spot → Looked
look_at farm spot = if is_servable (plan_of farm.plan) spot
    then looked_by (mark_of farm.marks.shown (key_of spot)) else Looked.Unservable

-- the reply, if there is one; else Stopped after a Stop, and Empty before
abbrev pub collected_by : Option Reply → Bool → Collected
collected_by (Some r) stopped = Collected.Reply r
collected_by None true = Collected.Stopped
collected_by None false = Collected.Empty

-- what a collect is answered, by what the farm keeps
abbrev pub collect_at : {D : Type 0} → FarmSeen D → ℕ → Collected
collect_at farm front =
    collected_by (find (is_of_front front) farm.queues.ended) farm.counts.stopped

-- a reply that was collected
abbrev pub collected_counts : Reply → Counts → Counts
collected_counts r c =
    record c { turns = c.turns + 1; done = if is_done r.outcome then c.done + 1 else c.done }

-- a Stop
abbrev pub stopped_counts : Counts → Counts
stopped_counts c = record c { turns = c.turns + 1; stopped = true }

-- what a tally is answered
abbrev pub tally_of : Counts → Tally
tally_of c = record { asks = c.asks; done = c.done; stored = c.stored; version = c.version }
