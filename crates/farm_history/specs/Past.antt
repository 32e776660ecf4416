-- What a history tells of the past: data, styles, flights, what is shown and clean, what waits,
-- which asks are open and which have ended.
use Rattle.std.specs.Prelude.{ℕ, ◌+◌, Bool, true, false, ◌&&◌, ◌||◌, not, ◌==◌, nat_lt, if◌then◌else◌, List, [], ◌∷◌, ◌++◌, length, map, filter, count_by, find, Option, Some, None, is_some}
use Rattle.std.specs.List.{list_any}
use Rattle.farm_history.specs.declared.keys.Key.{Key}
use Rattle.farm_history.specs.declared.queues.Conn.{Conn}
use Rattle.farm_history.specs.declared.queues.Queue.{Queue}
use Rattle.farm_history.specs.declared.queues.Limits.{Limits}
use Rattle.farm_history.specs.declared.queues.Outcome.{Outcome}
use Rattle.farm_history.specs.declared.queues.Reply.{Reply}
use Rattle.farm_history.specs.declared.asks.Spot.{Spot}
use Rattle.farm_history.specs.declared.asks.Why.TheVariants.{Deferred}
use Rattle.farm_history.specs.declared.asks.AskAnswer.{AskAnswer}
use Rattle.farm_history.specs.declared.asks.AskAnswer.TheVariants.{Queued, Joined, Lifted, NotDone}
use Rattle.farm_history.specs.declared.answers.ClaimAnswer.TheVariants.{Job}
use Rattle.farm_history.specs.declared.answers.Finished.{Finished}
use Rattle.farm_history.specs.declared.answers.Finished.TheVariants.{Stored, PutFailed}
use Rattle.farm_history.specs.declared.answers.Updated.{Updated}
use Rattle.farm_history.specs.declared.answers.Renewed.{Renewed}
use Rattle.farm_history.specs.declared.answers.Restyled.TheVariants.{Styled}
use Rattle.farm_history.specs.declared.answers.Collected.{Collected}
use Rattle.farm_history.specs.declared.answers.Tally.{Tally as Totals}
use Rattle.farm_history.specs.Entries.{Entry, Ask, Claim, Finish, Update, Renew, Restyle, Expire, Collect, Leave, Stop}
use Rattle.farm_history.specs.Plans.{Plan, Waits, same_key, same_conn, key_of, map_of, spot_tile, is_servable, overlaps, is_style_of, is_dirty_command, own_queue, waits_in, without_key, has_room}

-- whether a Stop stands in the history
unfoldable pub is_stopped : List Entry → Bool
is_stopped [] = false
is_stopped (Stop ∷ g) = true
is_stopped (_ ∷ g) = is_stopped g

-- the numbers of the updates that succeeded, as updates or as renews, in order: they stand for the
-- data after the history
unfoldable pub data_after : List Entry → List ℕ
data_after [] = []
data_after (Update n (Updated.Version v) ∷ g) = data_after g ++ n ∷ []
data_after (Renew n (Renewed.Version v count) ∷ g) = data_after g ++ n ∷ []
data_after (_ ∷ g) = data_after g

-- the data version: how many updates succeeded
abbrev pub version : List Entry → ℕ
version h = length (data_after h)

-- the number of the style that the map was last given, or none where it still has the plan's
unfoldable pub style_after : Plan → List Entry → ℕ → Option ℕ
style_after p [] map = None
style_after p (Restyle n (Styled count) ∷ g) map = if is_style_of p n map then Some n
    else style_after p g map
style_after p (_ ∷ g) map = style_after p g map

-- the bytes that the plan draws of a spot's tile, in the map's style and over the data after the
-- history
abbrev pub drawn_after : Plan → List Entry → Spot → List ℕ
drawn_after p h spot =
    p.drawing (map_of spot) (style_after p h (map_of spot)) (spot_tile spot) (data_after h)

-- a drawing under way: its ticket, its key, and what came before its Claim
pub record Flight : Type 0 where
  pub ticket : ℕ
  pub key : Key
  pub before : List Entry

-- the Claims answered Job whose ticket has no later Finish, in order
unfoldable pub flights : List Entry → List Flight
flights [] = []
flights (Claim worker (Job t k v) ∷ g) =
    flights g ++ record { ticket = t; key = k; before = g } ∷ []
flights (Finish t drawn answer ∷ g) = filter (λ f. not (f.ticket == t)) (flights g)
flights (_ ∷ g) = flights g

-- the flight of that ticket
abbrev pub flight_in : List Flight → ℕ → Option Flight
flight_in fs t = find (λ f. f.ticket == t) fs

-- whether the key is being drawn
abbrev pub flies : List Entry → Key → Bool
flies h k = list_any (λ f. same_key f.key k) (flights h)

-- how many Claims were answered Job
unfoldable pub jobs : List Entry → ℕ
jobs [] = 0
jobs (Claim worker (Job t k v) ∷ g) = jobs g + 1
jobs (_ ∷ g) = jobs g

-- the keys of the Claims answered Job, each once
unfoldable pub claimed_keys : List Entry → List Key
claimed_keys [] = []
claimed_keys (Claim worker (Job t k v) ∷ g) = if list_any (λ x. same_key x k) (claimed_keys g)
    then claimed_keys g else claimed_keys g ++ k ∷ []
claimed_keys (_ ∷ g) = claimed_keys g

-- whether there is a flight, and it is of the key
abbrev pub is_on : Option Flight → Key → Bool
is_on None k = false
is_on (Some f) k = same_key f.key k

-- whether the entry is a Finish on the key, where g came before it. The key of a Finish is that of
-- its ticket's Claim
abbrev pub finishes : List Entry → Entry → Key → Bool
finishes g (Finish t drawn answer) k = is_on (flight_in (flights g) t) k
finishes g _ k = false

-- what is shown of a key after a drawing was stored: where the drawing is of the key, what came
-- before its Claim
abbrev pub stored_on : Option Flight → Key → Option (List Entry) → Option (List Entry)
stored_on None k otherwise = otherwise
stored_on (Some f) k otherwise = if same_key f.key k then Some f.before else otherwise

-- Look at the last Finish on the key that was answered Stored or PutFailed. Where it was Stored,
-- this is what came before its Claim; else none
unfoldable pub shown : List Entry → Key → Option (List Entry)
shown [] k = None
shown (Finish t drawn (Stored clean) ∷ g) k = stored_on (flight_in (flights g) t) k (shown g k)
shown (Finish t drawn PutFailed ∷ g) k = if is_on (flight_in (flights g) t) k then None
    else shown g k
shown (_ ∷ g) k = shown g k

-- Whether an entry touches a key, where g came before it:
-- an Expire whose tile's square overlaps the key's; an Ask with Dirty on a servable spot of the
-- key, before any Stop; a Restyle answered Styled of the key's map; a Renew answered Version whose
-- update, over the data before it, reaches the key's square. Nothing else does. Expiry by lists of
-- tiles is that of mod_tile's render_expired; how far it goes (every map and every zoom), and what
-- else touches, is this farm's own rule
abbrev pub touches : Plan → List Entry → Entry → Key → Bool
touches p g (Expire tile count) k = overlaps tile k
touches p g (Ask conn command spot answer) k = is_dirty_command command
    && (not (is_stopped g) && (is_servable p spot && same_key (key_of spot) k))
touches p g (Restyle n (Styled count)) k = is_style_of p n k.map
touches p g (Renew n (Renewed.Version v count)) k = p.reaches (data_after g) n k
touches p g _ k = false

-- whether an entry after that place touches the key
unfoldable pub is_touched_after : Plan → List Entry → ℕ → Key → Bool
is_touched_after p [] place k = false
is_touched_after p (e ∷ g) place k =
    (touches p g e k && nat_lt place (length g)) || is_touched_after p g place k

-- whether something is shown, by what came before its Claim, and no entry after that place touches
-- the key
abbrev pub is_fresh : Plan → List Entry → Option (List Entry) → Key → Bool
is_fresh p h None k = false
is_fresh p h (Some before) k = not (is_touched_after p h (length before) k)

-- whether the key is clean: it is shown, and no entry after the Claim of what is shown touches it
abbrev pub is_clean : Plan → List Entry → Key → Bool
is_clean p h k = is_fresh p h (shown h k) k

-- how many clean keys pass the test; what is clean was claimed
abbrev pub clean_count : Plan → List Entry → (Key → Bool) → ℕ
clean_count p h test = count_by (λ k. is_clean p h k && test k) (claimed_keys h)

-- whether the key is being drawn, and was touched after the Claim of that drawing
abbrev pub is_overtaken : Plan → List Entry → Key → Bool
is_overtaken p h k =
    list_any (λ f. same_key f.key k && is_touched_after p h (length f.before) f.key) (flights h)

-- the key goes last in the dirty queue while that is below its limit
abbrev pub with_dirty : Limits → Key → List Waits → List Waits
with_dirty limits k ws = if has_room limits Queue.Dirty ws
    then ws ++ record { queue = Queue.Dirty; key = k } ∷ [] else ws

-- what an ask's answer does to those that wait: Queued puts the key last in the command's own
-- queue; Lifted takes it out and puts it last there; Deferred puts it last in the dirty queue
abbrev pub after_answer : AskAnswer → Queue → Key → List Waits → List Waits
after_answer (Queued n) own k ws = ws ++ record { queue = own; key = k } ∷ []
after_answer (Lifted n) own k ws = without_key k ws ++ record { queue = own; key = k } ∷ []
after_answer (NotDone Deferred) own k ws = ws ++ record { queue = Queue.Dirty; key = k } ∷ []
after_answer _ own k ws = ws

-- a drawing that was stored dirty goes to the dirty queue
abbrev pub after_stale : Limits → Option Flight → List Waits → List Waits
after_stale limits None ws = ws
after_stale limits (Some f) ws = with_dirty limits f.key ws

-- What waits, in the order in which it came to its queue. Beside what answers do, an ask with Dirty
-- that touches a key which neither waits nor flies puts it in the dirty queue, a Finish answered
-- Stored(false) does so with its key, and a Claim takes the key of its Job out. The five queues,
-- and that an ask whose own queue is full goes to the dirty queue, are renderd's; the rest is this
-- farm's own rule
unfoldable pub waiting : Plan → List Entry → List Waits
waiting p [] = []
waiting p (Ask conn command spot answer ∷ g) =
    if touches p g (Ask conn command spot answer) (key_of spot)
    && not (waits_in (waiting p g) (key_of spot) || flies g (key_of spot))
    then with_dirty p.limits (key_of spot)
    (after_answer answer (own_queue command) (key_of spot) (waiting p g))
    else after_answer answer (own_queue command) (key_of spot) (waiting p g)
waiting p (Claim worker (Job t k v) ∷ g) = without_key k (waiting p g)
waiting p (Finish t drawn (Stored false) ∷ g) =
    after_stale p.limits (flight_in (flights g) t) (waiting p g)
waiting p (_ ∷ g) = waiting p g

-- whether the key waits
abbrev pub waits : Plan → List Entry → Key → Bool
waits p h k = waits_in (waiting p h) k

-- the number that an ask's answer gave it: those that wait have one
abbrev pub number_in : AskAnswer → Option ℕ
number_in (Queued n) = Some n
number_in (Joined n) = Some n
number_in (Lifted n) = Some n
number_in _ = None

-- how many asks were given a number
unfoldable pub numbers : List Entry → ℕ
numbers [] = 0
numbers (Ask conn command spot answer ∷ g) = if is_some (number_in answer) then numbers g + 1
    else numbers g
numbers (_ ∷ g) = numbers g

-- an ask with a number: its connection, its number, its key, and what came before it
pub record Numbered : Type 0 where
  pub conn : Conn
  pub number : ℕ
  pub key : Key
  pub before : List Entry

-- the asks, and last among them the new one where it was given a number; g came before it
abbrev pub with_ask : Option ℕ → Conn → Key → List Entry → List Numbered → List Numbered
with_ask None conn k g asks = asks
with_ask (Some n) conn k g asks =
    asks ++ record { conn = conn; number = n; key = k; before = g } ∷ []

-- the open asks, in order: those with a number, without a later Leave of their connection and
-- without a later Collect of their reply
unfoldable pub open_asks : List Entry → List Numbered
open_asks [] = []
open_asks (Ask conn command spot answer ∷ g) =
    with_ask (number_in answer) conn (key_of spot) g (open_asks g)
open_asks (Collect front (Collected.Reply r) ∷ g) =
    filter (λ a. not (a.number == r.ask)) (open_asks g)
open_asks (Leave conn count ∷ g) = filter (λ a. not (same_conn a.conn conn)) (open_asks g)
open_asks (_ ∷ g) = open_asks g

-- how many of the asks are of the connection
abbrev pub how_many_of : Conn → List Numbered → ℕ
how_many_of conn asks = count_by (λ a. same_conn a.conn conn) asks

-- whether a Finish on the key stands after that place
unfoldable pub is_ended_after : List Entry → ℕ → Key → Bool
is_ended_after [] place k = false
is_ended_after (e ∷ g) place k =
    (finishes g e k && nat_lt place (length g)) || is_ended_after g place k

-- whether the entry is the ask's End, where g came before it: the first Finish on the ask's key
-- after the ask
abbrev pub is_end_of : List Entry → Entry → Numbered → Bool
is_end_of g e a = finishes g e a.key
    && (nat_lt (length a.before) (length g) && not (is_ended_after g (length a.before) a.key))

-- how a drawing ended for those who wait for it
abbrev pub outcome_of : Finished → Outcome
outcome_of (Stored clean) = Outcome.Done
outcome_of PutFailed = Outcome.NotDone
outcome_of Finished.NoMemory = Outcome.Cut

-- the reply to an ask by the answer of its End
abbrev pub reply_to : Finished → Numbered → Reply
reply_to answer a = record { conn = a.conn; ask = a.number; outcome = outcome_of answer }

-- the replies to those of the asks whose End stands in the history, in order of the End and then of
-- the ask
unfoldable pub replies_to : List Numbered → List Entry → List Reply
replies_to asks [] = []
replies_to asks (Finish t drawn answer ∷ g) =
    replies_to asks g ++ map (reply_to answer) (filter (is_end_of g (Finish t drawn answer)) asks)
replies_to asks (_ ∷ g) = replies_to asks g

-- the replies to a front's open asks that have an End, in order
abbrev pub due_replies : List Entry → ℕ → List Reply
due_replies h front = replies_to (filter (λ a. a.conn.front == front) (open_asks h)) h

-- how many asks had a render command, whatever they were answered
unfoldable pub asks_made : List Entry → ℕ
asks_made [] = 0
asks_made (Ask conn command spot answer ∷ g) = if is_dirty_command command then asks_made g
    else asks_made g + 1
asks_made (_ ∷ g) = asks_made g

-- whether an ask was answered Done at once
abbrev pub is_done_answer : AskAnswer → Bool
is_done_answer AskAnswer.Done = true
is_done_answer _ = false

-- whether a reply says Done
abbrev pub is_done : Outcome → Bool
is_done Outcome.Done = true
is_done _ = false

-- how many asks were answered Done, or had a reply Done that was collected
unfoldable pub done_asks : List Entry → ℕ
done_asks [] = 0
done_asks (Ask conn command spot answer ∷ g) = if is_done_answer answer then done_asks g + 1
    else done_asks g
done_asks (Collect front (Collected.Reply r) ∷ g) = if is_done r.outcome then done_asks g + 1
    else done_asks g
done_asks (_ ∷ g) = done_asks g

-- how many drawings were stored
unfoldable pub stored_drawings : List Entry → ℕ
stored_drawings [] = 0
stored_drawings (Finish t drawn (Stored clean) ∷ g) = stored_drawings g + 1
stored_drawings (_ ∷ g) = stored_drawings g

-- Words of proofs, which say parts of the above.

-- the flights that do not have that ticket
abbrev pub without_ticket : ℕ → List Flight → List Flight
without_ticket t fs = filter (λ f. not (f.ticket == t)) fs

-- whether a flight has that key
abbrev pub flies_in : List Flight → Key → Bool
flies_in fs k = list_any (λ f. same_key f.key k) fs

-- what is shown of a key after a drawing was refused by the store: nothing, where the drawing is of
-- the key
abbrev pub lost_on : Option Flight → Key → Option (List Entry) → Option (List Entry)
lost_on f k otherwise = if is_on f k then None else otherwise

-- the asks that are not of the connection
abbrev pub without_conn : Conn → List Numbered → List Numbered
without_conn conn asks = filter (λ a. not (same_conn a.conn conn)) asks

-- the asks that do not have that number
abbrev pub without_number : ℕ → List Numbered → List Numbered
without_number n asks = filter (λ a. not (a.number == n)) asks

-- what a farm counts
abbrev pub totals : List Entry → Totals
totals h = record {
  asks = asks_made h;
  done = done_asks h;
  stored = stored_drawings h;
  version = version h;
}
