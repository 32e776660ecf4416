-- What a key that is drawn in a replay leaves: a legal history in which it is shown, clean, at the version, over the data and in the style of that moment.
use Rattle.std.proofs.Common.{◌≡◌, ℕ, suc, ◌<◌, ◌≤◌, Bool, true, false, not, ◌&&◌, ◌||◌, cond, ◌==◌, nat_lt, nat_le, List, [], ◌∷◌, ◌++◌, length, map, filter, Option, Some, None, refl, sym, ap, ap₂, ◌∙◌, subst, arith}
use Rattle.std.specs.List.{list_any}
use Rattle.std.proofs.lemmas.Bool.Decides.{nat_tests}
use Rattle.farm_history.specs.declared.keys.Key.{Key}
use Rattle.farm_history.specs.declared.queues.Queue.{Queue}
use Rattle.farm_history.specs.declared.queues.Outcome.{Outcome}
use Rattle.farm_history.specs.declared.queues.Reply.{Reply}
use Rattle.farm_history.specs.declared.asks.Cmd.{Cmd}
use Rattle.farm_history.specs.declared.asks.AskAnswer.TheVariants.{Queued}
use Rattle.farm_history.specs.declared.answers.ClaimAnswer.{ClaimAnswer}
use Rattle.farm_history.specs.declared.answers.ClaimAnswer.TheVariants.{Job, Crowded}
use Rattle.farm_history.specs.declared.answers.Finished.TheVariants.{Stored}
use Rattle.farm_history.specs.declared.answers.Collected.{Collected}
use Rattle.farm_history.specs.Entries.{Entry, Ask, Claim, Finish}
use Rattle.farm_history.specs.Plans.{Plan, waits_in, waits_in_queue, how_many_in, same_key, key_of, next, without_key}
use Rattle.farm_history.specs.Past.{is_clean, is_fresh, how_many_of, flies_in, is_ended_after, Flight, is_stopped, data_after, version, style_after, flights, flight_in, without_ticket, jobs, shown, is_touched_after, waiting, numbers, Numbered, open_asks, without_number, due_replies, replies_to}
use Rattle.farm_history.specs.Rules.{ask_rule, job_of, claim_rule, FlightFits, collect_from, collect_rule, Fits, Legal}
use Rattle.farm_history.specs.inner.Asks.{Tests, answer_of_waiting, answer_by, tests_of}
use Rattle.farm_history.specs.Seen.{is_waiter, chain_after, outbox, waiter_of}
use Rattle.farm_history.specs.Replays.{replay_front, replayer, lowest, replay_key}
use Rattle.farm_history.proofs.Lists.{same_key-self}
use Rattle.farm_history.proofs.Apart.{ask_render, stored_here, stored_other}
use Rattle.farm_history.proofs.Marks.{touched_never}
use Rattle.farm_history.proofs.Ends.{asks_on_ask, outbox_ask, outbox_finish, ended_outbox, reply_for}
use Rattle.farm_history.proofs.Keyed.{IsServed}

-- a legal history in which no Stop came, nothing flies or waits, and no ask is open
pub record IsQuiet (p : Plan) (told : Bool) (g : List Entry) : Type 0 where
  pub legal : Legal p told g
  pub running : is_stopped g ≡ false
  pub grounded : flights g ≡ []
  pub idle : waiting p g ≡ []
  pub answered : open_asks g ≡ []

queued_by : (t : Tests) (n : ℕ) → t.stopped ≡ false → t.servable ≡ true → t.clean ≡ false → t.backlog ≡ false → t.overtaken ≡ false → t.flies ≡ false → t.liftable ≡ false → t.in_dirty ≡ false → t.waits ≡ false → t.own_room ≡ true → Queued n ≡ answer_by t n
unfolding answer_by answer_of_waiting
queued_by t n a b c d e f g h i j = grind arith

-- the bulk ask of a key that is not shown is queued
ask_fits : (p : Plan) (told : Bool) (g : List Entry) (k : Key) → IsQuiet p told g → IsServed p k → 0 < p.limits.bulk → shown g k ≡ None → Queued (numbers g) ≡ ask_rule p g replayer Cmd.Bulk (lowest k)
ask_fits p told g k q served room unseen =
    queued_by (tests_of p g replayer Cmd.Bulk (lowest k)) (numbers g) q.running served.servable
    (subst (λ (x : Key). is_clean p g x ≡ false) (sym served.key_is) (ap (λ s. is_fresh p g s k) unseen))
    (ap (λ xs. nat_le 64 (how_many_of replayer xs) || nat_le 4096 (length xs)) q.answered)
    (ap (λ fs. list_any (λ (f : Flight). same_key f.key (key_of (lowest k)) && is_touched_after p g (length f.before) f.key) fs) q.grounded)
    (ap (λ fs. flies_in fs (key_of (lowest k))) q.grounded)
    refl
    (ap (λ ws. waits_in_queue ws Queue.Dirty (key_of (lowest k))) q.idle)
    (ap (λ ws. waits_in ws (key_of (lowest k))) q.idle)
    (ap (λ ws. nat_lt (how_many_in ws Queue.Bulk) p.limits.bulk) q.idle ∙ grind (arith, nat_tests))
    ∙ sym (ask_render p g replayer Cmd.Bulk (lowest k) refl)

-- its Claim is answered with it
claim_fits : (p : Plan) (g : List Entry) (k : Key) → is_stopped g ≡ false → flights g ≡ [] → waiting p g ≡ record { queue = Queue.Bulk; key = k } ∷ [] → 0 < p.workers → Job (jobs g) k (version g) ≡ claim_rule p g
unfolding next
claim_fits p g k running grounded only workers =
    sym (ap (λ b. cond b ClaimAnswer.Stopped (cond (length (flights g) == p.workers) Crowded (job_of (next (waiting p g)) (jobs g) (version g)))) running
    ∙ (ap (λ b. cond b Crowded (job_of (next (waiting p g)) (jobs g) (version g))) free ∙ ap (λ ws. job_of (next ws) (jobs g) (version g)) only))
  where
    free : (length (flights g) == p.workers) ≡ false
    free = ap (λ fs. length fs == p.workers) grounded ∙ grind (arith, nat_tests)

-- a Finish of a flight that nothing touched since its Claim, which came last before it
finish_fits : (p : Plan) (g : List Entry) (f : Flight) → flight_in (flights g) f.ticket ≡ Some f → length g ≤ suc (length f.before) → FlightFits p g (flight_in (flights g) f.ticket) true (Stored true)
finish_fits p g f is last = subst (λ (o : Option Flight). FlightFits p g o true (Stored true)) (sym is) (sym (ap not (touched_never p g (length f.before) f.key last)))

-- a Collect of the one reply
collect_fits : (g : List Entry) (r : Reply) (front : ℕ) → due_replies g front ≡ r ∷ [] → Collected.Reply r ≡ collect_rule g front
collect_fits g r front is = sym (ap (λ rs. collect_from rs (is_stopped g)) is)

-- no asks, no replies
pub replies_none : (h : List Entry) → replies_to [] h ≡ []
unfolding replies_to
replies_none [] = refl
replies_none (Finish t drawn answer ∷ g) = ap (λ xs. xs ++ []) (replies_none g)
replies_none (_ ∷ g) = replies_none g

-- the steps of a replayed key
abbrev asked_bulk : Key → List Entry → List Entry
asked_bulk k g = Ask replayer Cmd.Bulk (lowest k) (Queued (numbers g)) ∷ g

abbrev claimed_first : Key → List Entry → List Entry
claimed_first k g = Claim 0 (Job (jobs g) k (version g)) ∷ asked_bulk k g

abbrev stored_clean : Key → List Entry → List Entry
stored_clean k g = Finish (jobs g) true (Stored true) ∷ claimed_first k g

abbrev pub the_reply : List Entry → Reply
the_reply g = record { conn = replayer; ask = numbers g; outcome = Outcome.Done }

abbrev pub the_ask : Key → List Entry → Numbered
the_ask k g = record { conn = replayer; number = numbers g; key = key_of (lowest k); before = g }

abbrev pub the_flight : Key → List Entry → Flight
the_flight k g = record { ticket = jobs g; key = k; before = asked_bulk k g }

waits_alone : (p : Plan) (told : Bool) (g : List Entry) (k : Key) → IsQuiet p told g → IsServed p k → waiting p (asked_bulk k g) ≡ record { queue = Queue.Bulk; key = k } ∷ []
unfolding waiting
waits_alone p told g k q served = ap₂ (λ ws x. ws ++ record { queue = Queue.Bulk; key = x } ∷ []) q.idle served.key_is

flies_alone : (p : Plan) (told : Bool) (g : List Entry) (k : Key) → IsQuiet p told g → flights (claimed_first k g) ≡ the_flight k g ∷ []
unfolding flights
flies_alone p told g k q = ap (λ fs. fs ++ the_flight k g ∷ []) q.grounded

found_alone : (p : Plan) (told : Bool) (g : List Entry) (k : Key) → IsQuiet p told g → flight_in (flights (claimed_first k g)) (jobs g) ≡ Some (the_flight k g)
found_alone p told g k q =
    let same : (jobs g == jobs g) ≡ true = grind (arith, nat_tests) in ap (λ fs. flight_in fs (jobs g)) (flies_alone p told g k q) ∙ ap (λ b. cond b (Some (the_flight k g)) None) same

opens_alone : (p : Plan) (told : Bool) (g : List Entry) (k : Key) → IsQuiet p told g → open_asks (asked_bulk k g) ≡ the_ask k g ∷ []
unfolding open_asks
opens_alone p told g k q = ap (λ xs. xs ++ the_ask k g ∷ []) q.answered

chain_alone : (p : Plan) (told : Bool) (g : List Entry) (k : Key) → IsQuiet p told g → IsServed p k → chain_after (claimed_first k g) k ≡ waiter_of (the_ask k g) ∷ []
unfolding open_asks is_ended_after
chain_alone p told g k q served =
    ap (map waiter_of) (asks_on_ask replayer Cmd.Bulk (lowest k) (Queued (numbers g)) g (numbers g) k refl
    ∙ ap₂ (λ xs b. xs ++ cond b (the_ask k g ∷ []) []) (ap (filter (is_waiter g k)) q.answered) (ap (λ x. same_key x k) served.key_is ∙ same_key-self k))

outbox_alone : (p : Plan) (told : Bool) (g : List Entry) (k : Key) → IsQuiet p told g → outbox (claimed_first k g) ≡ []
unfolding open_asks replies_to
outbox_alone p told g k q = outbox_ask replayer Cmd.Bulk (lowest k) (Queued (numbers g)) g ∙ (ap (λ xs. replies_to xs g) q.answered ∙ replies_none g)

reply_alone : (p : Plan) (told : Bool) (g : List Entry) (k : Key) → IsQuiet p told g → IsServed p k → due_replies (stored_clean k g) replay_front ≡ the_reply g ∷ []
reply_alone p told g k q served =
    ended_outbox (stored_clean k g) replay_front
    ∙ ap (λ xs. filter (λ r. r.conn.front == replay_front) xs) (outbox_finish (jobs g) true (Stored true) (claimed_first k g) (the_flight k g) (found_alone p told g k q)
    ∙ ap₂ (λ xs ys. xs ++ map (reply_for (Stored true)) ys) (outbox_alone p told g k q) (chain_alone p told g k q served))

-- a replayed key leaves the history legal and quiet
pub redrawn_quiet : (p : Plan) (told : Bool) (g : List Entry) (k : Key) → IsQuiet p told g → IsServed p k → 0 < p.workers → 0 < p.limits.bulk → shown g k ≡ None → IsQuiet p told (replay_key k g)
unfolding Fits is_stopped flights waiting jobs data_after open_asks
redrawn_quiet p told g k q served workers room unseen = record {
  legal = (
    collect_fits (stored_clean k g) (the_reply g) replay_front (reply_alone p told g k q served),
    (
      finish_fits p (claimed_first k g) (the_flight k g) (found_alone p told g k q) (omega arith),
      (
        claim_fits p (asked_bulk k g) k q.running q.grounded (waits_alone p told g k q served) workers,
        (ask_fits p told g k q served room unseen, q.legal),
      ),
    ),
  );
  running = q.running;
  grounded = let same : (jobs g == jobs g) ≡ true = grind (arith, nat_tests) in ap (without_ticket (jobs g)) (flies_alone p told g k q) ∙ ap (λ b. cond (not b) (the_flight k g ∷ []) []) same;
  idle = ap (without_key k) (waits_alone p told g k q served) ∙ ap (λ b. cond (not b) (record { queue = Queue.Bulk; key = k } ∷ []) []) (same_key-self k);
  answered = let same : (numbers g == numbers g) ≡ true = grind (arith, nat_tests) in ap (without_number (numbers g)) (opens_alone p told g k q) ∙ ap (λ b. cond (not b) (the_ask k g ∷ []) []) same;
}

-- what came before its Claim
abbrev pub before_again : Key → List Entry → List Entry
before_again k g = asked_bulk k g

-- the key is shown
pub redrawn_shown : (p : Plan) (told : Bool) (g : List Entry) (k : Key) → IsQuiet p told g → shown (replay_key k g) k ≡ Some (before_again k g)
unfolding shown
redrawn_shown p told g k q = stored_here (flight_in (flights (claimed_first k g)) (jobs g)) (the_flight k g) (shown g k) (found_alone p told g k q)

-- and others as they were
pub redrawn_other : (p : Plan) (told : Bool) (g : List Entry) (k j : Key) → IsQuiet p told g → same_key k j ≡ false → shown (replay_key k g) j ≡ shown g j
unfolding shown
redrawn_other p told g k j q other = stored_other (flight_in (flights (claimed_first k g)) (jobs g)) (the_flight k g) j (shown g j) (found_alone p told g k q) other

-- it touches nothing, and changes neither data nor styles
pub redrawn_touched : (p : Plan) (g : List Entry) (k : Key) (place : ℕ) (j : Key) → is_touched_after p (replay_key k g) place j ≡ is_touched_after p g place j
unfolding is_touched_after
redrawn_touched p g k place j = refl

pub redrawn_untouched : (p : Plan) (g : List Entry) (k j : Key) → is_touched_after p (replay_key k g) (length (before_again k g)) j ≡ false
redrawn_untouched p g k j = redrawn_touched p g k (length (before_again k g)) j ∙ touched_never p g (length (before_again k g)) j (omega arith)

pub redrawn_data : (g : List Entry) (k : Key) → data_after (replay_key k g) ≡ data_after g
unfolding data_after
redrawn_data g k = refl

pub redrawn_style : (p : Plan) (g : List Entry) (k : Key) (m : ℕ) → style_after p (replay_key k g) m ≡ style_after p g m
unfolding style_after
redrawn_style p g k m = refl

pub again_data : (g : List Entry) (k : Key) → data_after (before_again k g) ≡ data_after g
unfolding data_after
again_data g k = refl

pub again_style : (p : Plan) (g : List Entry) (k : Key) (m : ℕ) → style_after p (before_again k g) m ≡ style_after p g m
unfolding style_after
again_style p g k m = refl
