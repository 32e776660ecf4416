-- What an ask is answered, by what the farm keeps.
use Rattle.std.specs.Prelude.{◌+◌, ◌<◌, ◌≡◌, Bool, true, false, ◌&&◌, ◌||◌, nat_le, if◌then◌else◌, is_some, IsSome, Option, Some, None, MatchBool}
use Rattle.std.specs.List.{list_any}
use Rattle.farm_base.specs.Limits.{most_asks, most_asks_of_one}
use Rattle.farm_history.specs.declared.keys.Key.{Key}
use Rattle.farm_history.specs.declared.queues.Conn.{Conn}
use Rattle.farm_history.specs.declared.asks.Cmd.{Cmd}
use Rattle.farm_history.specs.declared.asks.Why.TheVariants.{Stopping, Unservable, Backlog, Overtaken, Deferred}
use Rattle.farm_history.specs.declared.asks.AskAnswer.{AskAnswer}
use Rattle.farm_history.specs.declared.asks.AskAnswer.TheVariants.{Queued, Joined, Lifted, NotDone}
use Rattle.farm_history.specs.declared.queues.Queue.{Queue}
use Rattle.farm_history.specs.Plans.{is_in, is_lifting, own_queue, same_key, same_queue}
use Rattle.farm_history.specs.inner.Asks.{answer_of_waiting}
use Rattle.farm_history.specs.Seen.{is_clean_mark}
use Rattle.farm_history.specs.Seen as seen
use Rattle.render_queues.specs.OneQueue.{is_below}
use Rattle.render_queues.specs.declared.standing.Standing.{Standing}
use Rattle.render_queues.specs.declared.standing.Standing.TheVariants.{Waits as InLine, Taken}
use Rattle.render_queues.specs.Tables.{Tables, line_of, open_of, open_count, standing, is_liftable, takes_lifted}
use Rattle.expiry_lists.specs.Marks.{mark_of, dirtied_marks}
use Rattle.farm_refinement.specs.declared.counts.Counts.{Counts}
use Rattle.farm_refinement.specs.Seen.{FarmSeen}
use Rattle.farm_history.specs.Past.{number_in, is_done_answer}
use Rattle.farm_refinement.specs.inner.Events.{waits_at, dirtied_taken, marked_tables, asked_tables}

-- the answer to an ask for a key with a render command, before any Stop
abbrev pub answer_at : {D : Type 0} → FarmSeen D → Conn → Cmd → Key → AskAnswer
answer_at farm conn command k =
    if is_clean_mark (mark_of farm.marks.shown k) then AskAnswer.Done
    else if nat_le most_asks_of_one (open_of farm.queues conn)
    || nat_le most_asks (open_count farm.queues)
    then NotDone Backlog
    else if list_any (λ (x : seen.Taken). same_key x.key k && x.touched) farm.taken
    then NotDone Overtaken
    else if is_in k farm.queues.taken then Joined farm.counts.numbers
    else answer_of_waiting
    (is_lifting command
    && (is_in k farm.queues.lines.dirty.keys || is_in k farm.queues.lines.bulk.keys))
    (is_in k farm.queues.lines.dirty.keys) (waits_at farm.queues k)
    (is_below (line_of farm.queues.lines (own_queue command)))
    (is_below farm.queues.lines.dirty) farm.counts.numbers

-- what the tables must be for the change that an answer makes
abbrev pub Needs : Tables → Queue → Key → AskAnswer → Type 0
Needs t own k (Queued n) =
    (standing t k ≡ None) × (open_count t < most_asks) × (is_below (line_of t.lines own) ≡ true)
Needs t own k (Joined n) = IsSome (standing t k) × (open_count t < most_asks)
Needs t own k (Lifted n) =
    (is_liftable (standing t k) ≡ true) × (takes_lifted own ≡ true) × (open_count t < most_asks)
    × (is_below (line_of t.lines own) ≡ true)
Needs t own k (NotDone Deferred) = (standing t k ≡ None) × (is_below t.lines.dirty ≡ true)
Needs t own k _ = Unit {0}

-- where a key stands, by what is found of it first: whether it is taken, waits, waits in the dirty queue, waits in the bulk queue
abbrev pub StandsBy : Option Standing → Bool → Bool → Bool → Bool → Type 0
StandsBy None flies waits dirty bulk =
    (flies ≡ false) × (waits ≡ false) × (dirty ≡ false) × (bulk ≡ false)
StandsBy (Some Taken) flies waits dirty bulk =
    (flies ≡ true) × (waits ≡ false) × (dirty ≡ false) × (bulk ≡ false)
StandsBy (Some (InLine q)) flies waits dirty bulk =
    (flies ≡ false) × (waits ≡ true)
    × (dirty ≡ same_queue q Queue.Dirty) × (bulk ≡ same_queue q Queue.Bulk)

-- an ask with a render command and that answer, beside the call
abbrev pub rendered_counts : AskAnswer → Counts → Counts
rendered_counts answer c = record c {
  numbers = if is_some (number_in answer) then c.numbers + 1 else c.numbers;
  asks = c.asks + 1;
  done = if is_done_answer answer then c.done + 1 else c.done;
}

-- the key is touched, and goes to the dirty queue where it stands nowhere
pub record DirtiesKey {D : Type 0} (k : Key) (old new : FarmSeen D) : Type 0 where
  pub shown : new.marks.shown ≡ dirtied_marks (same_key k) old.marks.shown
  pub rest : new ≡ record old {
    taken = dirtied_taken (same_key k) old.taken;
    marks = new.marks;
    queues = marked_tables old.queues k;
  }

-- what an ask with a render command is answered, whose metatile is given where the spot can be served
abbrev pub rendered_at : {D : Type 0} → FarmSeen D → Conn → Cmd → Option Key → AskAnswer
rendered_at farm conn command None =
    if farm.counts.stopped then NotDone Stopping else NotDone Unservable
rendered_at farm conn command (Some k) =
    if farm.counts.stopped then NotDone Stopping else answer_at farm conn command k

-- the tables after an ask with that answer
abbrev pub noted_tables : Tables → Queue → Conn → Option Key → AskAnswer → Tables
noted_tables t own conn None answer = t
noted_tables t own conn (Some k) answer = asked_tables t own k conn answer

-- before a Stop the metatile, where there is one, is touched; else nothing has changed
abbrev pub Dirtied : {D : Type 0} → FarmSeen D → FarmSeen D → Option Key → Type 0
Dirtied old new None = new ≡ old
Dirtied old new (Some k) = MatchBool old.counts.stopped (new ≡ old) (DirtiesKey k old new)
