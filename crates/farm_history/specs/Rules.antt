-- Which answer each event has, given what came before it; legal histories.
use Rattle.std.specs.Prelude.{ℕ, ◌+◌, ◌<◌, ◌≤◌, Bool, true, false, ◌&&◌, ◌||◌, not, ◌==◌, nat_le, if◌then◌else◌, ◌≡◌, List, [], ◌∷◌, length, Option, Some, None, MatchBool}
use Rattle.std.specs.Bool.{OnTrue}
use Rattle.farm_base.specs.Limits.{most_asks, most_asks_of_one}
use Rattle.farm_base.specs.declared.faults.ApplyFault.{ApplyFault}
use Rattle.farm_history.specs.declared.keys.Key.{Key}
use Rattle.farm_history.specs.declared.queues.Conn.{Conn}
use Rattle.farm_history.specs.declared.queues.Queue.{Queue}
use Rattle.farm_history.specs.declared.queues.Reply.{Reply}
use Rattle.farm_history.specs.declared.asks.Cmd.{Cmd}
use Rattle.farm_history.specs.declared.asks.Spot.{Spot}
use Rattle.farm_history.specs.declared.asks.Why.TheVariants.{Stopping, Unservable, Backlog, Overtaken, InDirty, Deferred, Dropped}
use Rattle.farm_history.specs.declared.asks.AskAnswer.{AskAnswer}
use Rattle.farm_history.specs.declared.asks.AskAnswer.TheVariants.{Queued, Joined, Lifted, NotDone, Silent}
use Rattle.farm_history.specs.declared.answers.ClaimAnswer.{ClaimAnswer}
use Rattle.farm_history.specs.declared.answers.ClaimAnswer.TheVariants.{Job, Idle, Crowded}
use Rattle.farm_history.specs.declared.answers.Finished.{Finished}
use Rattle.farm_history.specs.declared.answers.Finished.TheVariants.{Stored, PutFailed}
use Rattle.farm_history.specs.declared.answers.Updated.{Updated}
use Rattle.farm_history.specs.declared.answers.Renewed.{Renewed}
use Rattle.farm_history.specs.declared.answers.Restyled.{Restyled}
use Rattle.farm_history.specs.declared.answers.Restyled.TheVariants.{Styled, NoRestyle}
use Rattle.farm_history.specs.declared.answers.Fetched.{Fetched}
use Rattle.farm_history.specs.declared.answers.Looked.{Looked}
use Rattle.farm_history.specs.declared.answers.Collected.{Collected}
use Rattle.farm_history.specs.declared.answers.Collected.TheVariants.{Empty}
use Rattle.farm_history.specs.Entries.{Entry, Ask, Claim, Finish, Update, Renew, Restyle, Expire, Fetch, Look, Collect, Leave, Stop, Tally, EachMoment}
use Rattle.farm_history.specs.Plans.{Plan, Waits, key_of, is_servable, overlaps, is_style_of, is_dirty_command, is_lifting, own_queue, waits_in_queue, has_room, next}
use Rattle.farm_history.specs.Past.{Flight, is_stopped, data_after, version, drawn_after, flights, flight_in, flies, jobs, shown, is_touched_after, is_clean, clean_count, is_overtaken, waiting, waits, numbers, open_asks, how_many_of, due_replies, asks_made, done_asks, stored_drawings}

-- What an ask is answered, by the first line that holds; its number is how many were given before.
-- Of a backlog: the connection has 64 open asks, or 4,096 are open in all. A metatile is overtaken
-- where it is being drawn and was touched after that drawing's Claim. Prio, Render and Low lift it
-- out of the dirty or the bulk queue. The queues, and that an ask whose own queue is full goes to
-- the dirty queue, are renderd's; all other lines, and the limits, are this farm's own rule
abbrev pub ask_rule : Plan → List Entry → Conn → Cmd → Spot → AskAnswer
ask_rule p g conn command spot =
    if is_dirty_command command then Silent
    else if is_stopped g then NotDone Stopping
    else if not (is_servable p spot) then NotDone Unservable
    else if is_clean p g (key_of spot) then AskAnswer.Done
    else if nat_le most_asks_of_one (how_many_of conn (open_asks g))
    || nat_le most_asks (length (open_asks g)) then NotDone Backlog
    else if is_overtaken p g (key_of spot) then NotDone Overtaken
    else if flies g (key_of spot) then Joined (numbers g)
    else if (is_lifting command && (waits_in_queue (waiting p g) Queue.Dirty (key_of spot)
    || waits_in_queue (waiting p g) Queue.Bulk (key_of spot)))
    && has_room p.limits (own_queue command) (waiting p g) then Lifted (numbers g)
    else if waits_in_queue (waiting p g) Queue.Dirty (key_of spot) then NotDone InDirty
    else if waits p g (key_of spot) then Joined (numbers g)
    else if has_room p.limits (own_queue command) (waiting p g) then Queued (numbers g)
    else if has_room p.limits Queue.Dirty (waiting p g) then NotDone Deferred
    else NotDone Dropped

-- Claims.

-- the Job of the one that is taken next, or Idle
abbrev pub job_of : Option Waits → ℕ → ℕ → ClaimAnswer
job_of None ticket version = Idle
job_of (Some w) ticket version = Job ticket w.key version

-- what a Claim is answered: Stopped after a Stop; else Crowded where as many drawings are under way
-- as there are workers; else Idle where nothing waits; else the Job of the next key, with the
-- number of Jobs so far as its ticket and the data version
abbrev pub claim_rule : Plan → List Entry → ClaimAnswer
claim_rule p g =
    if is_stopped g then ClaimAnswer.Stopped
    else if length (flights g) == p.workers then Crowded
    else job_of (next (waiting p g)) (jobs g) (version g)

-- Ends of drawings.

-- What the end of a flight is answered: NoMemory where nothing was drawn. Else it is Stored,
-- PutFailed or NoMemory, and Stored is clean exactly where no entry after the Claim touches the key
abbrev pub EndFits : Plan → List Entry → Flight → Bool → Finished → Type 0
EndFits p g f false (Stored clean) = ⊥
EndFits p g f false PutFailed = ⊥
EndFits p g f true (Stored clean) = clean ≡ not (is_touched_after p g (length f.before) f.key)
EndFits p g f true PutFailed = Unit {0}
EndFits p g f _ Finished.NoMemory = Unit {0}

-- the ticket is one of a flight
abbrev pub FlightFits : Plan → List Entry → Option Flight → Bool → Finished → Type 0
FlightFits p g None drawn answer = ⊥
FlightFits p g (Some f) drawn answer = EndFits p g f drawn answer

-- Updates, renews and styles.

-- What update number n is answered: NoUpdate exactly where the table has none of that number; else
-- the next version where it has no fault over the data, and its first fault where it has one.
-- Refused for want of memory may come instead of either
abbrev pub UpdateFits : Plan → List Entry → ℕ → Updated → Type 0
UpdateFits p g n Updated.NoUpdate = p.updates ≤ n
UpdateFits p g n (Updated.Version v) =
    (n < p.updates) × (p.fault (data_after g) n ≡ None) × (v ≡ version g + 1)
UpdateFits p g n (Updated.Refused ApplyFault.NoMemory) = n < p.updates
UpdateFits p g n (Updated.Refused fault) = (n < p.updates) × (p.fault (data_after g) n ≡ Some fault)

-- what a renew is answered: the same, and with the version how many clean keys the update reaches
abbrev pub RenewFits : Plan → List Entry → ℕ → Renewed → Type 0
RenewFits p g n Renewed.NoUpdate = p.updates ≤ n
RenewFits p g n (Renewed.Version v count) = (n < p.updates) × (p.fault (data_after g) n ≡ None)
    × (v ≡ version g + 1) × (count ≡ clean_count p g (p.reaches (data_after g) n))
RenewFits p g n (Renewed.Refused ApplyFault.NoMemory) = n < p.updates
RenewFits p g n (Renewed.Refused fault) = (n < p.updates) × (p.fault (data_after g) n ≡ Some fault)

-- what a restyle is answered: NoRestyle exactly where the table has none of that number; else how
-- many keys of its map are clean
abbrev pub RestyleFits : Plan → List Entry → ℕ → Restyled → Type 0
RestyleFits p g n NoRestyle = length p.restyles ≤ n
RestyleFits p g n (Styled count) =
    (n < length p.restyles) × (count ≡ clean_count p g (λ k. is_style_of p n k.map))

-- Reads.

-- What a read of a shown key is answered, where before came before the Claim of what is shown.
-- Clean and Dirty are as the key stands, with the version before that Claim. Where the store tells
-- its content, the bytes are those that the plan draws of the tile in the style and over the data
-- before that Claim, and Gone and Spoilt do not come
abbrev pub ReadFits : Plan → Bool → List Entry → Spot → List Entry → Fetched → Type 0
ReadFits p store_tells g spot before (Fetched.Clean v bytes) =
    (is_touched_after p g (length before) (key_of spot) ≡ false) × (v ≡ version before)
    × OnTrue store_tells (bytes ≡ drawn_after p before spot)
ReadFits p store_tells g spot before (Fetched.Dirty v bytes) =
    (is_touched_after p g (length before) (key_of spot) ≡ true) × (v ≡ version before)
    × OnTrue store_tells (bytes ≡ drawn_after p before spot)
ReadFits p store_tells g spot before Fetched.Missing = ⊥
ReadFits p store_tells g spot before Fetched.Unservable = ⊥
ReadFits p store_tells g spot before Fetched.Gone = store_tells ≡ false
ReadFits p store_tells g spot before (Fetched.Spoilt fault) = store_tells ≡ false
ReadFits p store_tells g spot before Fetched.GetFailed = Unit {0}
ReadFits p store_tells g spot before Fetched.NoMemory = Unit {0}

-- what a read of a servable spot is answered: Missing exactly where its key is not shown
abbrev pub ShownFits : Plan → Bool → List Entry → Spot → Option (List Entry) → Fetched → Type 0
ShownFits p store_tells g spot None answer = answer ≡ Fetched.Missing
ShownFits p store_tells g spot (Some before) answer = ReadFits p store_tells g spot before answer

-- what a Fetch is answered: Unservable exactly where the spot cannot be served
abbrev pub FetchFits : Plan → Bool → List Entry → Spot → Fetched → Type 0
FetchFits p store_tells g spot answer = MatchBool (is_servable p spot)
    (ShownFits p store_tells g spot (shown g (key_of spot)) answer) (answer ≡ Fetched.Unservable)

-- how a key stands, by what came before the Claim of what is shown
abbrev pub look_at : Plan → List Entry → Key → Option (List Entry) → Looked
look_at p g k None = Looked.Missing
look_at p g k (Some before) = if is_touched_after p g (length before) k
    then Looked.Dirty (version before) else Looked.Clean (version before)

-- what a Look is answered
abbrev pub look_rule : Plan → List Entry → Spot → Looked
look_rule p g spot = if is_servable p spot then look_at p g (key_of spot) (shown g (key_of spot))
    else Looked.Unservable

-- Replies.

-- the first of the replies; without one Stopped after a Stop, else Empty
abbrev pub collect_from : List Reply → Bool → Collected
collect_from [] true = Collected.Stopped
collect_from [] false = Empty
collect_from (r ∷ rs) stopped = Collected.Reply r

-- what a Collect is answered
abbrev pub collect_rule : List Entry → ℕ → Collected
collect_rule g front = collect_from (due_replies g front) (is_stopped g)

-- the entry has the answer that the entries before it give it. `store_tells` says that the store
-- tells its content
unfoldable pub Fits : Plan → Bool → List Entry → Entry → Type 0
Fits p store_tells g (Ask conn command spot answer) = answer ≡ ask_rule p g conn command spot
Fits p store_tells g (Claim worker answer) = answer ≡ claim_rule p g
Fits p store_tells g (Finish t drawn answer) = FlightFits p g (flight_in (flights g) t) drawn answer
Fits p store_tells g (Update n answer) = UpdateFits p g n answer
Fits p store_tells g (Renew n answer) = RenewFits p g n answer
Fits p store_tells g (Restyle n answer) = RestyleFits p g n answer
Fits p store_tells g (Expire tile count) = count ≡ clean_count p g (overlaps tile)
Fits p store_tells g (Fetch spot answer) = FetchFits p store_tells g spot answer
Fits p store_tells g (Look spot answer) = answer ≡ look_rule p g spot
Fits p store_tells g (Collect front answer) = answer ≡ collect_rule g front
Fits p store_tells g (Leave conn count) = count ≡ how_many_of conn (open_asks g)
Fits p store_tells g Stop = Unit {0}
Fits p store_tells g (Tally counts) = counts ≡ record {
  asks = asks_made g;
  done = done_asks g;
  stored = stored_drawings g;
  version = version g;
}

-- a history is legal where each entry has the answer that those before it give it
abbrev pub Legal : Plan → Bool → List Entry → Type 0
Legal p store_tells h = EachMoment (Fits p store_tells) h
