-- The tables, entry by entry.
use Rattle.std.proofs.Common.{◌≡◌, ℕ, ◌+◌, Bool, true, false, not, ◌&&◌, ◌||◌, cond, ◌==◌, List, [], ◌∷◌, ◌++◌, length, map, filter, count_by, Some, None, refl, sym, ap, ap₂, ◌∙◌, arith}
use Rattle.std.specs.List.{list_any}
use Rattle.std.proofs.lemmas.List.{map-append}
use Rattle.std.proofs.lemmas.Bool.Decides.{nat_tests}
use Rattle.render_queues.proofs.Keys.{without_absent}
use Rattle.farm_history.specs.declared.keys.Key.{Key}
use Rattle.farm_history.specs.declared.queues.Conn.{Conn}
use Rattle.farm_history.specs.declared.queues.Queue.{Queue}
use Rattle.farm_history.specs.declared.queues.Reply.{Reply}
use Rattle.farm_history.specs.declared.queues.Outcome.{Outcome}
use Rattle.farm_history.specs.declared.asks.Cmd.{Cmd}
use Rattle.farm_history.specs.declared.asks.Spot.{Spot}
use Rattle.farm_history.specs.declared.asks.Why.TheVariants.{Deferred}
use Rattle.farm_history.specs.declared.asks.AskAnswer.{AskAnswer}
use Rattle.farm_history.specs.declared.asks.AskAnswer.TheVariants.{Queued, Joined, Lifted, NotDone, Silent}
use Rattle.farm_history.specs.declared.answers.ClaimAnswer.TheVariants.{Job}
use Rattle.farm_history.specs.declared.answers.Finished.{Finished}
use Rattle.farm_history.specs.declared.answers.Finished.TheVariants.{Stored}
use Rattle.farm_history.specs.declared.answers.Collected.{Collected}
use Rattle.farm_history.specs.Lists.{Each, Differ}
use Rattle.farm_history.specs.Entries.{Entry, Ask, Claim, Finish, Collect, Leave}
use Rattle.farm_history.specs.Plans.{Plan, Waits, AreApart, same_key, same_conn, is_in, key_of, is_servable, is_dirty_command, own_queue, limit_of, waits_in, waits_in_queue, without_key, has_room, next}
use Rattle.farm_history.specs.Past.{Flight, is_stopped, flights, flight_in, without_ticket, flies, touches, with_dirty, after_answer, after_stale, waiting, waits, number_in, open_asks, is_ended_after, replies_to, how_many_of, outcome_of}
use Rattle.farm_history.specs.inner.Asks.{Tests, answer_of_waiting, answer_by}
use Rattle.farm_history.specs.Laws.{flight_key}
use Rattle.farm_history.specs.Seen.{in_queue, waiting_asks, outbox, chain_after}
use Rattle.farm_history.proofs.Lists.{same_key-self, same_key-sym, find-not, each-map, none-each, filter-all, map-filter, any-map}
use Rattle.farm_history.proofs.Numbers.{flight_ticket}
use Rattle.farm_history.proofs.OneReply.{IsOpen}
use Rattle.farm_history.proofs.Replies.{IsReplyIn}
use Rattle.farm_history.proofs.Ends.{outbox_ask, outbox_leave, outbox_reply, outbox_finish, reply_for, map-map}
use Rattle.farm_history.proofs.Counts.{count-cons}
use Rattle.farm_history.proofs.Opens.{count-map}
use Rattle.farm_history.proofs.Unended.{chain_joined, unended_ask, unended_unnumbered, unended_leave, unended_finish, unended_reply, open_split}
use Rattle.farm_plan.specs.Plans.{FarmPlan}
use Rattle.farm_plan.specs.Drawings.{plan_of}
use Rattle.render_queues.specs.declared.asks.Asked.{Asked}
use Rattle.render_queues.specs.OneQueue.{is_below, without}
use Rattle.render_queues.specs.Tables.{Tables, line_of, after_place, after_take, after_end, after_leave, waits_on, reply_with, open_of, open_count, next_of, asked_by, replies_to_conn}
use Rattle.farm_refinement.specs.Stands.{waits_key, asked_of, QueuesStand}
use Rattle.farm_refinement.specs.inner.Events as events
use Rattle.farm_refinement.specs.inner.Events.{asked_tables, waiter, waits_at, marked_tables}
use Rattle.farm_refinement.proofs.Lining.{AreLines, in_line, limit_pushed, limit_cut, limit_lifted, lines_pushed, lines_cut, lines_lifted, below_is, waits_lines, next_is, next_there}

-- ---- an entry that changes nothing of what waits, flies or is asked

pub queues_quiet : (plan : FarmPlan) (t : Tables) (g : List Entry) (e : Entry) → waiting (plan_of plan) (e ∷ g) ≡ waiting (plan_of plan) g → flights (e ∷ g) ≡ flights g → waiting_asks (e ∷ g) ≡ waiting_asks g → outbox (e ∷ g) ≡ outbox g →
    QueuesStand plan t g → QueuesStand plan t (e ∷ g)
queues_quiet plan t g e same_waiting same_flights same_asks same_replies s = record {
  limits_are = s.limits_are;
  workers_are = s.workers_are;
  waiting_is = λ queue. s.waiting_is queue ∙ ap (λ ws. map waits_key (in_queue queue ws)) (sym same_waiting);
  taken_is = s.taken_is ∙ ap (map flight_key) (sym same_flights);
  asks_are = s.asks_are ∙ ap (map asked_of) (sym same_asks);
  ended_are = s.ended_are ∙ sym same_replies;
}

-- ---- what the tables tell

pub flies_at : (plan : FarmPlan) (t : Tables) (g : List Entry) (k : Key) → QueuesStand plan t g → is_in k t.taken ≡ flies g k
flies_at plan t g k s = ap (is_in k) s.taken_is ∙ any-map flight_key (λ x. same_key x k) (flights g)

pub waits_are : (plan : FarmPlan) (t : Tables) (g : List Entry) (k : Key) → QueuesStand plan t g → waits_at t k ≡ waits (plan_of plan) g k
waits_are plan t g k s = waits_lines t.lines (waiting (plan_of plan) g) k s.waiting_is

pub waits_there : (plan : FarmPlan) (t : Tables) (g : List Entry) (queue : Queue) (k : Key) → QueuesStand plan t g → is_in k (line_of t.lines queue).keys ≡ waits_in_queue (waiting (plan_of plan) g) queue k
waits_there plan t g queue k s = in_line t.lines (waiting (plan_of plan) g) queue k s.waiting_is

pub room_is : (plan : FarmPlan) (t : Tables) (g : List Entry) (queue : Queue) → QueuesStand plan t g → is_below (line_of t.lines queue) ≡ has_room plan.limits queue (waiting (plan_of plan) g)
room_is plan t g queue s = below_is t.lines (waiting (plan_of plan) g) plan.limits queue s.waiting_is (s.limits_are queue)

pub next_at : (plan : FarmPlan) (t : Tables) (g : List Entry) → QueuesStand plan t g → next_of t.lines ≡ next (waiting (plan_of plan) g)
next_at plan t g s = next_is t.lines (waiting (plan_of plan) g) s.waiting_is

counts_open : (plan : FarmPlan) (t : Tables) (g : List Entry) (q : Conn → Bool) → QueuesStand plan t g → count_by (λ a. q a.waiter.conn) t.asks + count_by (λ r. q r.conn) t.ended ≡ count_by (λ a. q a.conn) (open_asks g)
counts_open plan t g q s =
    ap₂ (λ xs ys. count_by (λ a. q a.waiter.conn) xs + count_by (λ r. q r.conn) ys) s.asks_are s.ended_are
    ∙ (ap (λ n. n + count_by (λ r. q r.conn) (outbox g)) (count-map asked_of (λ a. q a.waiter.conn) (waiting_asks g)) ∙ sym (open_split q g))

pub open_of_is : (plan : FarmPlan) (t : Tables) (g : List Entry) (conn : Conn) → QueuesStand plan t g → open_of t conn ≡ how_many_of conn (open_asks g)
open_of_is plan t g conn s = counts_open plan t g (λ c. same_conn c conn) s

pub count_all : {X : Type 0} (xs : List X) → count_by (λ x. true) xs ≡ length xs
count_all [] = refl
count_all (x ∷ xs) = count-cons (λ y. true) x xs ∙ (ap (λ n. 1 + n) (count_all xs) ∙ omega arith)

pub open_count_is : (plan : FarmPlan) (t : Tables) (g : List Entry) → QueuesStand plan t g → open_count t ≡ length (open_asks g)
open_count_is plan t g s = ap₂ (λ m n. m + n) (sym (count_all t.asks)) (sym (count_all t.ended)) ∙ (counts_open plan t g (λ c. true) s ∙ count_all (open_asks g))

-- ---- asks

-- what an answer says of the tests: what is lifted waits in the dirty or the bulk queue
pub lifted_by : (tests : Tests) (n m : ℕ) → Lifted m ≡ answer_by tests n → tests.liftable ≡ true
unfolding answer_by answer_of_waiting
lifted_by tests n m h = grind arith

-- the tables' part of an ask
record AskLines (plan : FarmPlan) (t new : Tables) (ws : List Waits) : Type 0 where
  limits : (queue : Queue) → (line_of new.lines queue).limit ≡ limit_of plan.limits queue
  lines : AreLines new.lines ws

asked_lines : (plan : FarmPlan) (t : Tables) (g : List Entry) (conn : Conn) (own : Queue) (k : Key) (answer : AskAnswer) → AreApart waits_key (waiting (plan_of plan) g) →
    ((n : ℕ) → answer ≡ Lifted n → waits_in_queue (waiting (plan_of plan) g) Queue.Dirty k || waits_in_queue (waiting (plan_of plan) g) Queue.Bulk k ≡ true) → QueuesStand plan t g →
    AskLines plan t (asked_tables t own k conn answer) (after_answer answer own k (waiting (plan_of plan) g))
asked_lines plan t g conn own k (Queued n) lone lifts s = record {
  limits = λ queue. limit_pushed t.lines own queue k ∙ s.limits_are queue;
  lines = lines_pushed t.lines (waiting (plan_of plan) g) own k s.waiting_is;
}
asked_lines plan t g conn own k (Lifted n) lone lifts s = record {
  limits = λ queue. limit_pushed _ own queue k ∙ (limit_lifted t.lines queue k ∙ s.limits_are queue);
  lines = lines_pushed _ (without_key k (waiting (plan_of plan) g)) own k (lines_lifted t.lines (waiting (plan_of plan) g) k lone (lifts n refl) s.waiting_is);
}
asked_lines plan t g conn own k (NotDone Deferred) lone lifts s = record {
  limits = λ queue. limit_pushed t.lines Queue.Dirty queue k ∙ s.limits_are queue;
  lines = lines_pushed t.lines (waiting (plan_of plan) g) Queue.Dirty k s.waiting_is;
}
asked_lines plan t g conn own k (NotDone why) lone lifts s = record { limits = s.limits_are; lines = s.waiting_is }
asked_lines plan t g conn own k answer lone lifts s = record { limits = s.limits_are; lines = s.waiting_is }

asked_asks : (plan : FarmPlan) (t : Tables) (g : List Entry) (conn : Conn) (command : Cmd) (own : Queue) (spot : Spot) (answer : AskAnswer) → t.asks ≡ map asked_of (waiting_asks g) →
    (asked_tables t own (key_of spot) conn answer).asks ≡ map asked_of (waiting_asks (Ask conn command spot answer ∷ g))
asked_asks plan t g conn command own spot answer are = go answer refl
  where
    numbered : (a : AskAnswer) (n : ℕ) → number_in a ≡ Some n → t.asks ++ record { key = key_of spot; waiter = waiter conn n } ∷ [] ≡ map asked_of (waiting_asks (Ask conn command spot a ∷ g))
    numbered a n is = ap (λ xs. xs ++ record { key = key_of spot; waiter = waiter conn n } ∷ []) are ∙ sym (ap (map asked_of) (unended_ask conn command spot a g n is) ∙ map-append asked_of (waiting_asks g) _)

    unnumbered : (a : AskAnswer) → number_in a ≡ None → t.asks ≡ map asked_of (waiting_asks (Ask conn command spot a ∷ g))
    unnumbered a is = are ∙ sym (ap (map asked_of) (unended_unnumbered conn command spot a g is))

    go : (a : AskAnswer) → a ≡ answer → (asked_tables t own (key_of spot) conn a).asks ≡ map asked_of (waiting_asks (Ask conn command spot a ∷ g))
    go (Queued n) same = numbered (Queued n) n refl
    go (Joined n) same = numbered (Joined n) n refl
    go (Lifted n) same = numbered (Lifted n) n refl
    go (NotDone Deferred) same = unnumbered (NotDone Deferred) refl
    go (NotDone why) same = unnumbered (NotDone why) refl
    go AskAnswer.Done same = unnumbered AskAnswer.Done refl
    go Silent same = unnumbered Silent refl

asked_rest : (t : Tables) (own : Queue) (k : Key) (conn : Conn) (answer : AskAnswer) → ((asked_tables t own k conn answer).workers ≡ t.workers) × ((asked_tables t own k conn answer).taken ≡ t.taken) × ((asked_tables t own k conn answer).ended ≡ t.ended)
asked_rest t own k conn (Queued n) = (refl, refl, refl)
asked_rest t own k conn (Joined n) = (refl, refl, refl)
asked_rest t own k conn (Lifted n) = (refl, refl, refl)
asked_rest t own k conn (NotDone Deferred) = (refl, refl, refl)
asked_rest t own k conn (NotDone why) = (refl, refl, refl)
asked_rest t own k conn answer = (refl, refl, refl)

-- an ask with a render command
pub queues_ask : (plan : FarmPlan) (t : Tables) (g : List Entry) (conn : Conn) (command : Cmd) (spot : Spot) (answer : AskAnswer) → AreApart waits_key (waiting (plan_of plan) g) → is_dirty_command command ≡ false →
    ((n : ℕ) → answer ≡ Lifted n → waits_in_queue (waiting (plan_of plan) g) Queue.Dirty (key_of spot) || waits_in_queue (waiting (plan_of plan) g) Queue.Bulk (key_of spot) ≡ true) → QueuesStand plan t g →
    QueuesStand plan (asked_tables t (own_queue command) (key_of spot) conn answer) (Ask conn command spot answer ∷ g)
unfolding waiting flights
queues_ask plan t g conn command spot answer lone render lifts s = record {
  limits_are = new.limits;
  workers_are = rest.0 ∙ s.workers_are;
  waiting_is = λ queue. new.lines queue ∙ ap (λ ws. map waits_key (in_queue queue ws)) (sym waiting_now);
  taken_is = rest.1 ∙ s.taken_is;
  asks_are = asked_asks plan t g conn command (own_queue command) spot answer s.asks_are;
  ended_are = rest.2 ∙ (s.ended_are ∙ sym (outbox_ask conn command spot answer g));
}
  where
    p : Plan
    p = plan_of plan

    k : Key
    k = key_of spot

    new : AskLines plan t (asked_tables t (own_queue command) k conn answer) (after_answer answer (own_queue command) k (waiting p g))
    new = asked_lines plan t g conn (own_queue command) k answer lone lifts s

    rest : ((asked_tables t (own_queue command) k conn answer).workers ≡ t.workers) × ((asked_tables t (own_queue command) k conn answer).taken ≡ t.taken) × ((asked_tables t (own_queue command) k conn answer).ended ≡ t.ended)
    rest = asked_rest t (own_queue command) k conn answer

    waiting_now : waiting p (Ask conn command spot answer ∷ g) ≡ after_answer answer (own_queue command) k (waiting p g)
    waiting_now =
        ap (λ b. cond ((b && (not (is_stopped g) && (is_servable p spot && same_key k k))) && not (waits_in (waiting p g) k || flies g k)) (with_dirty p.limits k (after_answer answer (own_queue command) k (waiting p g))) (after_answer answer (own_queue command) k (waiting p g))) render

-- ---- the dirty queue

-- a key that goes to the dirty queue, if it has room
dirty_lines : (plan : FarmPlan) (t : Tables) (g : List Entry) (k : Key) → QueuesStand plan t g → AskLines plan t (events.with_dirty t k) (with_dirty plan.limits k (waiting (plan_of plan) g))
dirty_lines plan t g k s = go (is_below t.lines.dirty) (has_room plan.limits Queue.Dirty (waiting (plan_of plan) g)) (room_is plan t g Queue.Dirty s)
  where
    ws : List Waits
    ws = waiting (plan_of plan) g

    go : (b c : Bool) → b ≡ c → AskLines plan t (cond b (after_place t Queue.Dirty k) t) (cond c (ws ++ record { queue = Queue.Dirty; key = k } ∷ []) ws)
    go true true same = record { limits = λ queue. limit_pushed t.lines Queue.Dirty queue k ∙ s.limits_are queue; lines = lines_pushed t.lines ws Queue.Dirty k s.waiting_is }
    go false false same = record { limits = s.limits_are; lines = s.waiting_is }
    go true false same = cc
    go false true same = cc

dirty_rest : (t : Tables) (k : Key) → ((events.with_dirty t k).workers ≡ t.workers) × ((events.with_dirty t k).taken ≡ t.taken) × ((events.with_dirty t k).asks ≡ t.asks) × ((events.with_dirty t k).ended ≡ t.ended)
dirty_rest t k = go (is_below t.lines.dirty)
  where
    go : (b : Bool) → ((cond b (after_place t Queue.Dirty k) t).workers ≡ t.workers) × ((cond b (after_place t Queue.Dirty k) t).taken ≡ t.taken) × ((cond b (after_place t Queue.Dirty k) t).asks ≡ t.asks) × ((cond b (after_place t Queue.Dirty k) t).ended ≡ t.ended)
    go true = (refl, refl, refl, refl)
    go false = (refl, refl, refl, refl)

-- an ask with Dirty that touches its key
pub queues_mark : (plan : FarmPlan) (t : Tables) (g : List Entry) (conn : Conn) (command : Cmd) (spot : Spot) → touches (plan_of plan) g (Ask conn command spot Silent) (key_of spot) ≡ true → QueuesStand plan t g →
    QueuesStand plan (marked_tables t (key_of spot)) (Ask conn command spot Silent ∷ g)
unfolding waiting flights plan_of
queues_mark plan t g conn command spot marks s = go (waits_at t k || is_in k t.taken) refl
  where
    p : Plan
    p = plan_of plan

    k : Key
    k = key_of spot

    stands : waits_at t k || is_in k t.taken ≡ (waits_in (waiting p g) k || flies g k)
    stands = ap₂ (λ a b. a || b) (waits_are plan t g k s) (flies_at plan t g k s)

    waiting_now : (b : Bool) → waits_at t k || is_in k t.taken ≡ b → waiting p (Ask conn command spot Silent ∷ g) ≡ cond (not b) (with_dirty p.limits k (waiting p g)) (waiting p g)
    waiting_now b is =
        ap₂ (λ c d. cond (c && not d) (with_dirty p.limits k (waiting p g)) (waiting p g)) marks (sym stands ∙ is)

    asks_now : t.asks ≡ map asked_of (waiting_asks (Ask conn command spot Silent ∷ g))
    asks_now = s.asks_are ∙ sym (ap (map asked_of) (unended_unnumbered conn command spot Silent g refl))

    ended_now : t.ended ≡ outbox (Ask conn command spot Silent ∷ g)
    ended_now = s.ended_are ∙ sym (outbox_ask conn command spot Silent g)

    go : (b : Bool) → waits_at t k || is_in k t.taken ≡ b → QueuesStand plan (cond b t (events.with_dirty t k)) (Ask conn command spot Silent ∷ g)
    go true is = record {
      limits_are = s.limits_are;
      workers_are = s.workers_are;
      waiting_is = λ queue. s.waiting_is queue ∙ ap (λ ws. map waits_key (in_queue queue ws)) (sym (waiting_now true is));
      taken_is = s.taken_is;
      asks_are = asks_now;
      ended_are = ended_now;
    }
    go false is =
        let new = dirty_lines plan t g k s in
        let rest = dirty_rest t k in
        record {
          limits_are = new.limits;
          workers_are = rest.0 ∙ s.workers_are;
          waiting_is = λ queue. new.lines queue ∙ ap (λ ws. map waits_key (in_queue queue ws)) (sym (waiting_now false is));
          taken_is = rest.1 ∙ s.taken_is;
          asks_are = rest.2 ∙ asks_now;
          ended_are = rest.3 ∙ ended_now;
        }

-- one that touches nothing
pub queues_unmarked : (plan : FarmPlan) (t : Tables) (g : List Entry) (conn : Conn) (command : Cmd) (spot : Spot) → touches (plan_of plan) g (Ask conn command spot Silent) (key_of spot) ≡ false → QueuesStand plan t g → QueuesStand plan t (Ask conn command spot Silent ∷ g)
unfolding waiting flights
queues_unmarked plan t g conn command spot marks s =
    queues_quiet plan t g (Ask conn command spot Silent) (ap (λ b. cond (b && not (waits_in (waiting (plan_of plan) g) (key_of spot) || flies g (key_of spot))) (with_dirty (plan_of plan).limits (key_of spot) (waiting (plan_of plan) g)) (waiting (plan_of plan) g)) marks)
    refl (unended_unnumbered conn command spot Silent g refl) (outbox_ask conn command spot Silent g) s

-- ---- claims

pub queues_claim : (plan : FarmPlan) (t : Tables) (g : List Entry) (worker ticket v : ℕ) (w : Waits) → AreApart waits_key (waiting (plan_of plan) g) → next (waiting (plan_of plan) g) ≡ Some w → QueuesStand plan t g →
    QueuesStand plan (after_take t (Some w)) (Claim worker (Job ticket w.key v) ∷ g)
unfolding waiting flights open_asks is_ended_after replies_to
queues_claim plan t g worker ticket v w lone is s = record {
  limits_are = λ queue. limit_cut t.lines w.queue queue w.key ∙ s.limits_are queue;
  workers_are = s.workers_are;
  waiting_is = lines_cut t.lines (waiting (plan_of plan) g) w.queue w.key lone (next_there (waiting (plan_of plan) g) w is) s.waiting_is;
  taken_is = ap (λ xs. xs ++ w.key ∷ []) s.taken_is ∙ sym (map-append flight_key (flights g) _);
  asks_are = s.asks_are;
  ended_are = s.ended_are;
}

-- ---- ends of drawings

-- of flights with tickets apart and keys apart, the ticket's are those of its key
taken_without : (fs : List Flight) (ticket : ℕ) (f : Flight) → Differ flight_ticket fs → AreApart flight_key fs → flight_in fs ticket ≡ Some f → without f.key (map flight_key fs) ≡ map flight_key (without_ticket ticket fs)
taken_without [] ticket f differ apart is = cc
taken_without (x ∷ xs) ticket f differ apart is = go (x.ticket == ticket) refl is (taken_without xs ticket f differ.1 apart.1)
  where
    go : (b : Bool) → (x.ticket == ticket) ≡ b → cond b (Some x) (flight_in xs ticket) ≡ Some f → (flight_in xs ticket ≡ Some f → without f.key (map flight_key xs) ≡ map flight_key (without_ticket ticket xs)) →
        cond (not (same_key x.key f.key)) (x.key ∷ without f.key (map flight_key xs)) (without f.key (map flight_key xs)) ≡ map flight_key (cond (not b) (x ∷ without_ticket ticket xs) (without_ticket ticket xs))
    go true here found ih =
        let own : x ≡ f = cc in
        let key_same : same_key x.key f.key ≡ true = ap (λ (y : Flight). same_key x.key y.key) (sym own) ∙ same_key-self x.key in
        let keys_off : is_in f.key (map flight_key xs) ≡ false = any-map flight_key (λ y. same_key y f.key) xs ∙ (ap (λ (y : Flight). list_any (λ (z : Flight). same_key z.key y.key) xs) (sym own) ∙ apart.0) in
        let number : x.ticket ≡ ticket = grind (arith, nat_tests) in
        let rest : without_ticket ticket xs ≡ xs = filter-all _ xs (each-map _ _ xs (λ y h. ap not (sym (ap (λ n. y.ticket == n) number) ∙ h)) (none-each (λ y. y.ticket == x.ticket) xs differ.0)) in
        rw (key_same, rest) (without_absent f.key (map flight_key xs) keys_off)
    go false here found ih =
        let off : same_key f.key x.key ≡ false = find-not (λ (y : Flight). y.ticket == ticket) (λ (y : Flight). same_key y.key x.key) xs f found apart.0 in
        let turned : same_key x.key f.key ≡ false = same_key-sym x.key f.key ∙ off in
        rw turned (ap (λ ks. x.key ∷ ks) (ih found))

end_replies : (answer : Finished) (t : Tables) (g : List Entry) (k : Key) → t.asks ≡ map asked_of (waiting_asks g) → map (reply_with (outcome_of answer)) (filter (waits_on k) t.asks) ≡ map (reply_for answer) (chain_after g k)
end_replies answer t g k are =
    sym (map-map (λ (a : Asked). a.waiter) (reply_for answer) (filter (waits_on k) t.asks))
    ∙ ap (map (reply_for answer)) (chain_joined asked_of (λ (a : Asked). a.key) (λ (a : Asked). a.waiter) t.asks g k (λ a. refl) (λ a. refl) are)

end_asks : (t : Tables) (g : List Entry) (ticket : ℕ) (drawn : Bool) (answer : Finished) (f : Flight) → flight_in (flights g) ticket ≡ Some f → t.asks ≡ map asked_of (waiting_asks g) →
    filter (λ a. not (waits_on f.key a)) t.asks ≡ map asked_of (waiting_asks (Finish ticket drawn answer ∷ g))
end_asks t g ticket drawn answer f is are =
    ap (filter (λ a. not (waits_on f.key a))) are ∙ sym (ap (map asked_of) (unended_finish ticket drawn answer g f is) ∙ map-filter asked_of (λ a. not (same_key a.key f.key)) (λ a. not (waits_on f.key a)) (waiting_asks g) (λ a. refl))

-- an end whose key waits no more
pub queues_end : (plan : FarmPlan) (t : Tables) (g : List Entry) (ticket : ℕ) (drawn : Bool) (answer : Finished) (f : Flight) → Differ flight_ticket (flights g) → AreApart flight_key (flights g) → flight_in (flights g) ticket ≡ Some f →
    waiting (plan_of plan) (Finish ticket drawn answer ∷ g) ≡ waiting (plan_of plan) g → QueuesStand plan t g → QueuesStand plan (after_end t f.key (outcome_of answer)) (Finish ticket drawn answer ∷ g)
unfolding flights
queues_end plan t g ticket drawn answer f differ apart is same_waiting s = record {
  limits_are = s.limits_are;
  workers_are = s.workers_are;
  waiting_is = λ queue. s.waiting_is queue ∙ ap (λ ws. map waits_key (in_queue queue ws)) (sym same_waiting);
  taken_is = ap (without f.key) s.taken_is ∙ taken_without (flights g) ticket f differ apart is;
  asks_are = end_asks t g ticket drawn answer f is s.asks_are;
  ended_are = ap₂ (λ xs ys. xs ++ ys) s.ended_are (end_replies answer t g f.key s.asks_are) ∙ sym (outbox_finish ticket drawn answer g f is);
}

-- one that was stored dirty: its key goes to the dirty queue
pub queues_stale : (plan : FarmPlan) (t : Tables) (g : List Entry) (ticket : ℕ) (drawn : Bool) (f : Flight) → Differ flight_ticket (flights g) → AreApart flight_key (flights g) → flight_in (flights g) ticket ≡ Some f → QueuesStand plan t g →
    QueuesStand plan (events.with_dirty (after_end t f.key Outcome.Done) f.key) (Finish ticket drawn (Stored false) ∷ g)
unfolding flights waiting plan_of
queues_stale plan t g ticket drawn f differ apart is s = record {
  limits_are = new.limits;
  workers_are = rest.0 ∙ s.workers_are;
  waiting_is = λ queue. new.lines queue ∙ ap (λ o. map waits_key (in_queue queue (after_stale (plan_of plan).limits o (waiting (plan_of plan) g)))) (sym is);
  taken_is = rest.1 ∙ (ap (without f.key) s.taken_is ∙ taken_without (flights g) ticket f differ apart is);
  asks_are = rest.2 ∙ end_asks t g ticket drawn (Stored false) f is s.asks_are;
  ended_are = rest.3 ∙ (ap₂ (λ xs ys. xs ++ ys) s.ended_are (end_replies (Stored false) t g f.key s.asks_are) ∙ sym (outbox_finish ticket drawn (Stored false) g f is));
}
  where
    ended : Tables
    ended = after_end t f.key Outcome.Done

    new : AskLines plan ended (events.with_dirty ended f.key) (with_dirty plan.limits f.key (waiting (plan_of plan) g))
    new = line_dirty (is_below t.lines.dirty) (has_room plan.limits Queue.Dirty (waiting (plan_of plan) g)) (room_is plan t g Queue.Dirty s)
      where
        ws : List Waits
        ws = waiting (plan_of plan) g

        line_dirty : (b c : Bool) → b ≡ c → AskLines plan ended (cond b (after_place ended Queue.Dirty f.key) ended) (cond c (ws ++ record { queue = Queue.Dirty; key = f.key } ∷ []) ws)
        line_dirty true true same = record { limits = λ queue. limit_pushed t.lines Queue.Dirty queue f.key ∙ s.limits_are queue; lines = lines_pushed t.lines ws Queue.Dirty f.key s.waiting_is }
        line_dirty false false same = record { limits = s.limits_are; lines = s.waiting_is }
        line_dirty true false same = cc
        line_dirty false true same = cc

    rest : ((events.with_dirty ended f.key).workers ≡ t.workers) × ((events.with_dirty ended f.key).taken ≡ ended.taken) × ((events.with_dirty ended f.key).asks ≡ ended.asks) × ((events.with_dirty ended f.key).ended ≡ ended.ended)
    rest = dirty_rest ended f.key

-- ---- replies

pub queues_leave : (plan : FarmPlan) (t : Tables) (g : List Entry) (conn : Conn) (count : ℕ) → QueuesStand plan t g → QueuesStand plan (after_leave t conn) (Leave conn count ∷ g)
unfolding flights waiting
queues_leave plan t g conn count s = record {
  limits_are = s.limits_are;
  workers_are = s.workers_are;
  waiting_is = s.waiting_is;
  taken_is = s.taken_is;
  asks_are = ap (filter (λ a. not (asked_by conn a))) s.asks_are ∙ sym (ap (map asked_of) (unended_leave conn count g) ∙ map-filter asked_of (λ a. not (same_conn a.conn conn)) (λ a. not (asked_by conn a)) (waiting_asks g) (λ a. refl));
  ended_are = ap (filter (λ r. not (replies_to_conn conn r))) s.ended_are ∙ sym (outbox_leave conn count g);
}

-- a reply that is taken out by its number
pub queues_reply : (plan : FarmPlan) (t : Tables) (g : List Entry) (front : ℕ) (r : Reply) → Each (IsOpen g) (open_asks g) → IsReplyIn (IsOpen g) g r → QueuesStand plan t g →
    QueuesStand plan (record t { ended = filter (λ x. not (x.ask == r.ask)) t.ended }) (Collect front (Collected.Reply r) ∷ g)
unfolding flights waiting
queues_reply plan t g front r opens given s = record {
  limits_are = s.limits_are;
  workers_are = s.workers_are;
  waiting_is = s.waiting_is;
  taken_is = s.taken_is;
  asks_are = s.asks_are ∙ ap (map asked_of) (sym (unended_reply front r g opens given));
  ended_are = ap (filter (λ x. not (x.ask == r.ask))) s.ended_are ∙ sym (outbox_reply front r g);
}
