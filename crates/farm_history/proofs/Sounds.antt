-- Each legal history is sound.
use Rattle.std.proofs.Common.{◌≡◌, ℕ, ◌<◌, Bool, true, false, ◌&&◌, ◌||◌, cond, ◌==◌, nat_lt, List, [], ◌∷◌, ◌++◌, length, Option, Some, None, MatchBool, refl, sym, ap, ◌∙◌, subst, arith}
use Rattle.std.proofs.lemmas.Bool.Decides.{nat_tests}
use Rattle.std.specs.Bool.{OnTrue}
use Rattle.farm_history.specs.declared.keys.Key.{Key}
use Rattle.farm_history.specs.declared.queues.Conn.{Conn}
use Rattle.farm_history.specs.declared.queues.Reply.{Reply}
use Rattle.farm_history.specs.declared.queues.Outcome.{Outcome}
use Rattle.farm_history.specs.declared.asks.Cmd.{Cmd}
use Rattle.farm_history.specs.declared.asks.Spot.{Spot}
use Rattle.farm_history.specs.declared.asks.AskAnswer.{AskAnswer}
use Rattle.farm_history.specs.declared.asks.AskAnswer.TheVariants.{Silent}
use Rattle.farm_history.specs.declared.answers.ClaimAnswer.TheVariants.{Job}
use Rattle.farm_history.specs.declared.answers.Finished.{Finished}
use Rattle.farm_history.specs.declared.answers.Finished.TheVariants.{Stored, PutFailed}
use Rattle.farm_history.specs.declared.answers.Fetched.{Fetched}
use Rattle.farm_history.specs.declared.answers.Collected.{Collected}
use Rattle.farm_history.specs.Entries.{Entry, Ask, Claim, Finish, Fetch, Collect, Leave}
use Rattle.farm_history.specs.Plans.{Plan, AreApart, same_key, key_of, is_servable, is_dirty_command}
use Rattle.farm_history.specs.Past.{Flight, version, flights, flight_in, is_on, stored_on, shown, is_touched_after, is_fresh, is_clean, without_ticket, number_in, numbers, Numbered, with_ask, open_asks, drawn_after}
use Rattle.farm_history.specs.Rules.{ask_rule, FlightFits, ShownFits, FetchFits, Fits, Legal}
use Rattle.farm_history.specs.inner.Asks.{Tests, answer_of_waiting, answer_by, tests_of}
use Rattle.farm_history.specs.Laws.{is_stored_in, IsDrawnFresh, Fresh, flight_key, Single, is_claimed_after, is_redrawn_after, GapAt, Gap, is_stored_after, IsStoredFor, DoneReply, EachDone, LawSound}
use Rattle.farm_history.specs.Lists.{Each}
use Rattle.farm_history.proofs.Lists.{same_key-true, each-append, each-map, each-filter, each-find, none-each, find-passes}
use Rattle.farm_history.proofs.Places.{stale_stays}
use Rattle.farm_history.proofs.Apart.{ask_dirty, ask_render, job_is_next, kept, gone, stored_here}
use Rattle.farm_history.proofs.Replies.{IsReplyIn, collected}

-- what is legal was legal before
pub legal_before : (p : Plan) (told : Bool) (since g : List Entry) → Legal p told (since ++ g) → Legal p told g
legal_before p told [] g legal = legal
legal_before p told (e ∷ since) g legal = legal_before p told since g legal.1

-- Fresh.

-- the flight's Claim stands in the history
pub record IsClaimed (h : List Entry) (f : Flight) : Type 0 where
  pub since : List Entry
  pub worker : ℕ
  pub is_claim : h ≡ since ++ Claim worker (Job f.ticket f.key (version f.before)) ∷ f.before

claimed_still : (e : Entry) (g : List Entry) (f : Flight) → IsClaimed g f → IsClaimed (e ∷ g) f
claimed_still e g f c = record { since = e ∷ c.since; worker = c.worker; is_claim = ap (λ x. e ∷ x) c.is_claim }

pub flights_claimed : (p : Plan) (told : Bool) (h : List Entry) → Legal p told h → Each (IsClaimed h) (flights h)
unfolding Fits flights
flights_claimed p told [] legal = tt
flights_claimed p told (Claim worker (Job t k v) ∷ g) legal =
    each-append _ (flights g) _ (each-map _ _ (flights g) (claimed_still (Claim worker (Job t k v)) g) (flights_claimed p told g legal.1))
    (record { since = []; worker = worker; is_claim = ap (λ x. Claim worker (Job t k x) ∷ g) (job_is_next p g t k v legal.0).version_is })
flights_claimed p told (Finish t drawn answer ∷ g) legal =
    each-filter _ _ (flights g) (each-map _ _ (flights g) (claimed_still (Finish t drawn answer) g) (flights_claimed p told g legal.1))
flights_claimed p told (e ∷ g) legal = each-map _ _ (flights g) (claimed_still e g) (flights_claimed p told g legal.1)

-- what is shown of a key was claimed, and its drawing was stored
pub record IsDrawn (h : List Entry) (k : Key) (before : List Entry) : Type 0 where
  pub since : List Entry
  pub worker : ℕ
  pub ticket : ℕ
  pub is_claim : h ≡ since ++ Claim worker (Job ticket k (version before)) ∷ before
  pub is_stored : is_stored_in since ticket ≡ true

pub stored_more : (e : Entry) (since : List Entry) (t : ℕ) → is_stored_in since t ≡ true → is_stored_in (e ∷ since) t ≡ true
unfolding is_stored_in
stored_more (Finish t' drawn (Stored clean)) since t h = grind arith
stored_more (Finish t' drawn _) since t h = h
stored_more _ since t h = h

drawn_still : (e : Entry) (g : List Entry) (k : Key) (before : List Entry) → IsDrawn g k before → IsDrawn (e ∷ g) k before
drawn_still e g k before d = record { since = e ∷ d.since; worker = d.worker; ticket = d.ticket; is_claim = ap (λ x. e ∷ x) d.is_claim; is_stored = stored_more e d.since d.ticket d.is_stored }

-- a drawing that is stored is drawn
drawn_now : (t : ℕ) (drawn clean : Bool) (g : List Entry) (f : Flight) → flight_in (flights g) t ≡ Some f → IsClaimed g f → IsDrawn (Finish t drawn (Stored clean) ∷ g) f.key f.before
unfolding is_stored_in
drawn_now t drawn clean g f is c = record {
  since = Finish t drawn (Stored clean) ∷ c.since;
  worker = c.worker;
  ticket = f.ticket;
  is_claim = ap (λ x. Finish t drawn (Stored clean) ∷ x) c.is_claim;
  is_stored = let passed = find-passes (λ x. x.ticket == t) (flights g) f is in let same : (t == f.ticket) ≡ true = grind (arith, nat_tests, passed) in grind arith;
}

drawn_by_stored : (t : ℕ) (drawn clean : Bool) (g : List Entry) (k : Key) (before : List Entry) (o : Option Flight) → flight_in (flights g) t ≡ o → Each (IsClaimed g) (flights g) →
    (shown g k ≡ Some before → IsDrawn g k before) → stored_on o k (shown g k) ≡ Some before → IsDrawn (Finish t drawn (Stored clean) ∷ g) k before
drawn_by_stored t drawn clean g k before None is claims old s = drawn_still (Finish t drawn (Stored clean)) g k before (old s)
drawn_by_stored t drawn clean g k before (Some f) is claims old s = go (same_key f.key k) refl s
  where
    e : Entry
    e = Finish t drawn (Stored clean)

    now : IsDrawn (e ∷ g) f.key f.before
    now = drawn_now t drawn clean g f is (each-find (IsClaimed g) _ (flights g) f claims is)

    go : (b : Bool) → same_key f.key k ≡ b → cond b (Some f.before) (shown g k) ≡ Some before → IsDrawn (e ∷ g) k before
    go true same s =
        let began : f.before ≡ before = cc in
        let here : IsDrawn (e ∷ g) k f.before = subst (λ (x : Key). IsDrawn (e ∷ g) x f.before) (same_key-true f.key k same) now in
        subst (λ (x : List Entry). IsDrawn (e ∷ g) k x) began here
    go false other s = drawn_still e g k before (old s)

drawn_by_lost : (t : ℕ) (drawn : Bool) (g : List Entry) (k : Key) (before : List Entry) (b : Bool) → (shown g k ≡ Some before → IsDrawn g k before) → cond b None (shown g k) ≡ Some before → IsDrawn (Finish t drawn PutFailed ∷ g) k before
drawn_by_lost t drawn g k before true old s = cc
drawn_by_lost t drawn g k before false old s = drawn_still (Finish t drawn PutFailed) g k before (old s)

pub shown_drawn : (p : Plan) (told : Bool) (h : List Entry) (k : Key) (before : List Entry) → Legal p told h → shown h k ≡ Some before → IsDrawn h k before
unfolding shown
shown_drawn p told [] k before legal s = cc
shown_drawn p told (Finish t drawn (Stored clean) ∷ g) k before legal s =
    drawn_by_stored t drawn clean g k before (flight_in (flights g) t) refl (flights_claimed p told g legal.1) (λ s'. shown_drawn p told g k before legal.1 s') s
shown_drawn p told (Finish t drawn PutFailed ∷ g) k before legal s =
    drawn_by_lost t drawn g k before (is_on (flight_in (flights g) t) k) (λ s'. shown_drawn p told g k before legal.1 s') s
shown_drawn p told (e ∷ g) k before legal s = drawn_still e g k before (shown_drawn p told g k before legal.1 s)

-- what a Fetch answered Clean says: its spot can be served, its key is shown, untouched since, with the version of its Claim, and where the store tells with its bytes
pub record IsSentClean (p : Plan) (told : Bool) (g : List Entry) (spot : Spot) (v : ℕ) (bytes : List ℕ) : Type 0 where
  pub servable : is_servable p spot ≡ true
  pub before : List Entry
  pub is_shown : shown g (key_of spot) ≡ Some before
  pub is_untouched : is_touched_after p g (length before) (key_of spot) ≡ false
  pub version_is : v ≡ version before
  pub bytes_are : told ≡ true → bytes ≡ drawn_after p before spot

-- what holds where b is true, where it is
on_true : {X : Type 0} (b : Bool) → OnTrue b X → b ≡ true → X
on_true true h is = h
on_true false h is = cc

pub sent_clean : (p : Plan) (told : Bool) (g : List Entry) (spot : Spot) (v : ℕ) (bytes : List ℕ) → FetchFits p told g spot (Fetched.Clean v bytes) → IsSentClean p told g spot v bytes
sent_clean p told g spot v bytes fits = served (is_servable p spot) refl fits
  where
    at : (o : Option (List Entry)) → is_servable p spot ≡ true → shown g (key_of spot) ≡ o → ShownFits p told g spot o (Fetched.Clean v bytes) → IsSentClean p told g spot v bytes
    at None can is h = cc
    at (Some before) can is h = record { servable = can; before = before; is_shown = is; is_untouched = h.0; version_is = h.1; bytes_are = on_true told h.2 }

    served : (b : Bool) → is_servable p spot ≡ b → MatchBool b (ShownFits p told g spot (shown g (key_of spot)) (Fetched.Clean v bytes)) (Fetched.Clean v bytes ≡ Fetched.Unservable) → IsSentClean p told g spot v bytes
    served false can h = cc
    served true can h = at (shown g (key_of spot)) can refl h

fresh_fetch : (p : Plan) (told : Bool) (g : List Entry) (spot : Spot) (v : ℕ) (bytes : List ℕ) → Legal p told g → IsSentClean p told g spot v bytes → IsDrawnFresh p told g spot v bytes
fresh_fetch p told g spot v bytes legal s =
    let d = shown_drawn p told g (key_of spot) s.before legal s.is_shown in
    record {
      since = d.since;
      worker = d.worker;
      ticket = d.ticket;
      before = s.before;
      is_claimed = d.is_claim;
      is_stored = d.is_stored;
      is_untouched = s.is_untouched;
      version_is = s.version_is;
      bytes_are = s.bytes_are;
    }

pub fresh : (p : Plan) (told : Bool) (h : List Entry) → Legal p told h → Fresh p told h
unfolding Fits
fresh p told [] legal = tt
fresh p told (Fetch spot (Fetched.Clean v bytes) ∷ g) legal = (fresh_fetch p told g spot v bytes legal.1 (sent_clean p told g spot v bytes legal.0), fresh p told g legal.1)
fresh p told (Fetch spot _ ∷ g) legal = (tt, fresh p told g legal.1)
fresh p told (e ∷ g) legal = (tt, fresh p told g legal.1)

-- Single.

pub single : (p : Plan) (told : Bool) (h : List Entry) → Legal p told h → Single h
single p told [] legal = (kept p told [] legal).single
single p told (e ∷ g) legal = ((kept p told (e ∷ g) legal).single, single p told g legal.1)

-- Gap.

-- since that place: each flight of the key was claimed after it, and the key is not clean unless such a flight was stored
pub record IsStaleSince (p : Plan) (h : List Entry) (place : ℕ) (k : Key) : Type 0 where
  pub passed : place < length h
  pub later : Each (λ (f : Flight). same_key f.key k ≡ true → place < length f.before) (flights h)
  pub stale : is_redrawn_after h place k ≡ false → is_clean p h k ≡ false

stale_by_stored : (p : Plan) (t : ℕ) (drawn clean : Bool) (g : List Entry) (place : ℕ) (k : Key) (o : Option Flight) → flight_in (flights g) t ≡ o → IsStaleSince p g place k →
    is_claimed_after o place k || is_redrawn_after g place k ≡ false → is_fresh p (Finish t drawn (Stored clean) ∷ g) (stored_on o k (shown g k)) k ≡ false
stale_by_stored p t drawn clean g place k None is old h = stale_stays p g (Finish t drawn (Stored clean)) (shown g k) k (old.stale (grind arith))
stale_by_stored p t drawn clean g place k (Some f) is old h = go (same_key f.key k) refl (each-find _ _ (flights g) f old.later is) h
  where
    go : (b : Bool) → same_key f.key k ≡ b → (b ≡ true → place < length f.before) → (b && nat_lt place (length f.before)) || is_redrawn_after g place k ≡ false →
        is_fresh p (Finish t drawn (Stored clean) ∷ g) (cond b (Some f.before) (shown g k)) k ≡ false
    go true same after h = let lt : place < length f.before = after refl in let yes_after : nat_lt place (length f.before) ≡ true = grind (arith, nat_tests) in let never : true ≡ false = grind arith in cc
    go false other after h = stale_stays p g (Finish t drawn (Stored clean)) (shown g k) k (old.stale h)

stale_by_lost : (p : Plan) (t : ℕ) (drawn : Bool) (g : List Entry) (place : ℕ) (k : Key) (b : Bool) → is_clean p g k ≡ false → is_fresh p (Finish t drawn PutFailed ∷ g) (cond b None (shown g k)) k ≡ false
stale_by_lost p t drawn g place k true old = refl
stale_by_lost p t drawn g place k false old = stale_stays p g (Finish t drawn PutFailed) (shown g k) k old

stale_still : (p : Plan) (e : Entry) (g : List Entry) (place : ℕ) (k : Key) → IsStaleSince p g place k → IsStaleSince p (e ∷ g) place k
unfolding flights shown is_redrawn_after
stale_still p (Claim worker (Job t j v)) g place k old = record {
  passed = let lt = old.passed in omega arith;
  later = each-append _ (flights g) _ old.later (λ same. old.passed);
  stale = λ h. stale_stays p g (Claim worker (Job t j v)) (shown g k) k (old.stale h);
}
stale_still p (Finish t drawn (Stored clean)) g place k old = record {
  passed = let lt = old.passed in omega arith;
  later = each-filter _ _ (flights g) old.later;
  stale = stale_by_stored p t drawn clean g place k (flight_in (flights g) t) refl old;
}
stale_still p (Finish t drawn PutFailed) g place k old = record {
  passed = let lt = old.passed in omega arith;
  later = each-filter _ _ (flights g) old.later;
  stale = λ h. stale_by_lost p t drawn g place k (is_on (flight_in (flights g) t) k) (old.stale h);
}
stale_still p (Finish t drawn Finished.NoMemory) g place k old = record {
  passed = let lt = old.passed in omega arith;
  later = each-filter _ _ (flights g) old.later;
  stale = λ h. stale_stays p g (Finish t drawn Finished.NoMemory) (shown g k) k (old.stale h);
}
stale_still p e g place k old = record {
  passed = let lt = old.passed in omega arith;
  later = old.later;
  stale = λ h. stale_stays p g e (shown g k) k (old.stale h);
}

-- a drawing of what was touched is stale from its Finish on
stale_from : (p : Plan) (t : ℕ) (drawn clean : Bool) (g : List Entry) (f : Flight) → AreApart flight_key (flights g) → flight_in (flights g) t ≡ Some f → is_touched_after p g (length f.before) f.key ≡ true →
    IsStaleSince p (Finish t drawn (Stored clean) ∷ g) (length g) f.key
unfolding flights shown is_redrawn_after is_touched_after
stale_from p t drawn clean g f apart is touched = record {
  passed = omega arith;
  later = each-map _ _ (without_ticket t (flights g)) (λ x other same. let never : false ≡ true = sym other ∙ same in cc) (none-each (λ x. same_key x.key f.key) (without_ticket t (flights g)) (gone t (flights g) f apart is));
  stale = λ h. rw (stored_here (flight_in (flights g) t) f (shown g f.key) is) (grind arith);
}

stale_since : (p : Plan) (told : Bool) (since : List Entry) (t : ℕ) (drawn clean : Bool) (g : List Entry) (f : Flight) → Legal p told (since ++ Finish t drawn (Stored clean) ∷ g) → flight_in (flights g) t ≡ Some f →
    is_touched_after p g (length f.before) f.key ≡ true → IsStaleSince p (since ++ Finish t drawn (Stored clean) ∷ g) (length g) f.key
stale_since p told [] t drawn clean g f legal is touched = stale_from p t drawn clean g f (kept p told g legal.1).single is touched
stale_since p told (e ∷ since) t drawn clean g f legal is touched = stale_still p e _ (length g) f.key (stale_since p told since t drawn clean g f legal.1 is touched)

-- a drawing of what was touched is stored as dirty
stored_dirty : (p : Plan) (g : List Entry) (o : Option Flight) (f : Flight) (drawn clean : Bool) → o ≡ Some f → FlightFits p g o drawn (Stored clean) → is_touched_after p g (length f.before) f.key ≡ true → clean ≡ false
stored_dirty p g None f drawn clean is fits touched = absurd fits
stored_dirty p g (Some x) f true clean is fits touched = let same : x ≡ f = cc in let touched' = rw (← same) at touched in grind (arith, fits, touched')
stored_dirty p g (Some x) f false clean is fits touched = absurd fits

gap_now : (p : Plan) (told : Bool) (h : List Entry) → Legal p told h → GapAt p h
unfolding Fits
gap_now p told h legal since t drawn clean g f split is touched =
    let at = subst (λ (x : List Entry). Legal p told x) split legal in
    let s = stale_since p told since t drawn clean g f at is touched in
    record {
      stored_dirty = stored_dirty p g (flight_in (flights g) t) f drawn clean is (legal_before p told since (Finish t drawn (Stored clean) ∷ g) at).0 touched;
      not_clean = subst (λ (x : List Entry). is_redrawn_after x (length g) f.key ≡ false → is_clean p x f.key ≡ false) (sym split) s.stale;
    }

pub gap : (p : Plan) (told : Bool) (h : List Entry) → Legal p told h → Gap p h
gap p told [] legal = gap_now p told [] legal
gap p told (e ∷ g) legal = (gap_now p told (e ∷ g) legal, gap p told g legal.1)

-- Done.

-- the ask stands in the history
pub record IsAsk (h : List Entry) (a : Numbered) : Type 0 where
  pub since : List Entry
  pub command : Cmd
  pub spot : Spot
  pub answer : AskAnswer
  pub is_asked : h ≡ since ++ Ask a.conn command spot answer ∷ a.before
  pub has_number : number_in answer ≡ Some a.number
  pub key_is : a.key ≡ key_of spot

ask_still : (e : Entry) (g : List Entry) (a : Numbered) → IsAsk g a → IsAsk (e ∷ g) a
ask_still e g a i = record { since = e ∷ i.since; command = i.command; spot = i.spot; answer = i.answer; is_asked = ap (λ x. e ∷ x) i.is_asked; has_number = i.has_number; key_is = i.key_is }

asks_by_ask : (conn : Conn) (command : Cmd) (spot : Spot) (answer : AskAnswer) (g : List Entry) (o : Option ℕ) → number_in answer ≡ o → Each (IsAsk (Ask conn command spot answer ∷ g)) (open_asks g) →
    Each (IsAsk (Ask conn command spot answer ∷ g)) (with_ask o conn (key_of spot) g (open_asks g))
asks_by_ask conn command spot answer g None is old = old
asks_by_ask conn command spot answer g (Some n) is old =
    each-append _ (open_asks g) _ old (record { since = []; command = command; spot = spot; answer = answer; is_asked = refl; has_number = is; key_is = refl })

-- each open ask stands in the history
pub open_asked : (h : List Entry) → Each (IsAsk h) (open_asks h)
unfolding open_asks
open_asked [] = tt
open_asked (Ask conn command spot answer ∷ g) = asks_by_ask conn command spot answer g (number_in answer) refl (each-map _ _ (open_asks g) (ask_still (Ask conn command spot answer) g) (open_asked g))
open_asked (Leave conn count ∷ g) = each-filter _ _ (open_asks g) (each-map _ _ (open_asks g) (ask_still (Leave conn count) g) (open_asked g))
open_asked (Collect front (Collected.Reply r) ∷ g) = each-filter _ _ (open_asks g) (each-map _ _ (open_asks g) (ask_still (Collect front (Collected.Reply r)) g) (open_asked g))
open_asked (e ∷ g) = each-map _ _ (open_asks g) (ask_still e g) (open_asked g)

-- an ask answered Done is of a clean key
pub done_by : (t : Tests) (n : ℕ) → AskAnswer.Done ≡ answer_by t n → t.clean ≡ true
unfolding answer_by answer_of_waiting
done_by t n h = grind arith

done_ask : (p : Plan) (g : List Entry) (conn : Conn) (command : Cmd) (spot : Spot) → AskAnswer.Done ≡ ask_rule p g conn command spot → is_clean p g (key_of spot) ≡ true
done_ask p g conn command spot is = go (is_dirty_command command) refl
  where
    go : (b : Bool) → is_dirty_command command ≡ b → is_clean p g (key_of spot) ≡ true
    go true dirty = let never : AskAnswer.Done ≡ Silent = is ∙ ask_dirty p g conn command spot dirty in cc
    go false dirty = done_by (tests_of p g conn command spot) (numbers g) (is ∙ ask_render p g conn command spot dirty)

-- a reply Done is of a key stored after its ask
stored_for : (g : List Entry) (r : Reply) → IsReplyIn (IsAsk g) g r → r.outcome ≡ Outcome.Done → IsStoredFor g r
stored_for g r i d = record {
  since = i.holds.since;
  command = i.holds.command;
  spot = i.holds.spot;
  answer = i.holds.answer;
  before = i.ask.before;
  is_asked = i.holds.is_asked ∙ ap (λ c. i.holds.since ++ Ask c i.holds.command i.holds.spot i.holds.answer ∷ i.ask.before) (sym i.conn_is);
  has_number = i.holds.has_number ∙ ap (λ n. Some n) (sym i.number_is);
  is_stored = ap (λ k. is_stored_after g (length i.ask.before) k) (sym i.holds.key_is) ∙ i.is_stored d;
}

done_reply : (g : List Entry) (r : Reply) (o : Outcome) → r.outcome ≡ o → IsReplyIn (IsAsk g) g r → DoneReply g r o
done_reply g r Outcome.Done is i = stored_for g r i is
done_reply g r Outcome.NotDone is i = tt
done_reply g r Outcome.Cut is i = tt

pub each_done : (p : Plan) (told : Bool) (h : List Entry) → Legal p told h → EachDone p h
unfolding Fits
each_done p told [] legal = tt
each_done p told (Ask conn command spot AskAnswer.Done ∷ g) legal = (done_ask p g conn command spot legal.0, each_done p told g legal.1)
each_done p told (Ask conn command spot _ ∷ g) legal = (tt, each_done p told g legal.1)
each_done p told (Collect front (Collected.Reply r) ∷ g) legal = (done_reply g r r.outcome refl (collected (IsAsk g) g front r (open_asked g) legal.0), each_done p told g legal.1)
each_done p told (e ∷ g) legal = (tt, each_done p told g legal.1)

-- each legal history is sound
pub sound : LawSound
sound p told h legal = record { fresh = fresh p told h legal; single = single p told h legal; gap = gap p told h legal; done = each_done p told h legal }
