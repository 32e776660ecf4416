-- In a legal history each key that waits, is being drawn or is shown is that of a servable spot, and so its lowest tile is servable.
use Rattle.std.proofs.Common.{◌≡◌, ℕ, ◌*◌, ◌/◌, ◌^◌, ◌<◌, Bool, true, false, not, ◌&&◌, ◌||◌, cond, nat_lt, List, [], ◌∷◌, ◌++◌, Option, Some, None, refl, sym, ap, ◌∙◌, subst, arith}
use Rattle.std.proofs.lemmas.Bool.Decides.{nat_tests}
use Rattle.farm_history.specs.declared.keys.Key.{Key}
use Rattle.farm_history.specs.declared.queues.Conn.{Conn}
use Rattle.farm_history.specs.declared.queues.Queue.{Queue}
use Rattle.farm_history.specs.declared.queues.Limits.{Limits}
use Rattle.farm_history.specs.declared.asks.Cmd.{Cmd}
use Rattle.farm_history.specs.declared.asks.Spot.{Spot}
use Rattle.farm_history.specs.declared.asks.Why.TheVariants.{Deferred}
use Rattle.farm_history.specs.declared.asks.AskAnswer.{AskAnswer}
use Rattle.farm_history.specs.declared.asks.AskAnswer.TheVariants.{Queued, Lifted, NotDone, Silent}
use Rattle.farm_history.specs.declared.answers.ClaimAnswer.TheVariants.{Job}
use Rattle.farm_history.specs.declared.answers.Finished.{Finished}
use Rattle.farm_history.specs.declared.answers.Finished.TheVariants.{Stored, PutFailed}
use Rattle.farm_history.specs.Entries.{Entry, Ask, Claim, Finish}
use Rattle.farm_history.specs.Plans.{Plan, Waits, same_key, key_of, is_servable, is_dirty_command, own_queue, waits_in, without_key, has_room}
use Rattle.farm_history.specs.Past.{Flight, flights, flight_in, flies, is_on, stored_on, shown, touches, with_dirty, after_answer, after_stale, waiting, numbers}
use Rattle.farm_history.specs.Rules.{ask_rule, Fits, Legal}
use Rattle.farm_history.specs.inner.Asks.{Tests, answer_of_waiting, answer_by, tests_of}
use Rattle.farm_history.specs.Replays.{lowest}
use Rattle.farm_history.specs.Lists.{Each}
use Rattle.farm_history.proofs.Lists.{same_key-true, each-append, each-filter, each-find}
use Rattle.farm_history.proofs.Apart.{places, ask_dirty, ask_render, job_is_next}
use Rattle.farm_history.proofs.Queued.{next_found}

-- a key whose lowest tile is servable, and is of that key
pub record IsServed (p : Plan) (k : Key) : Type 0 where
  pub servable : is_servable p (lowest k) ≡ true
  pub key_is : key_of (lowest k) ≡ k

low_fits : (x top : ℕ) → nat_lt x top ≡ true → nat_lt (x / 8 * 8) top ≡ true
low_fits x top h = let lt : x < top = grind (arith, nat_tests) in let le : x / 8 * 8 < top = omega arith in grind (arith, nat_tests)

low_again : (x : ℕ) → x / 8 * 8 / 8 * 8 ≡ x / 8 * 8
low_again x = omega arith

pub served : (p : Plan) (spot : Spot) → is_servable p spot ≡ true → IsServed p (key_of spot)
unfolding is_servable
served p spot h = go spot.map spot.z spot.x spot.y h
  where
    go : (m : Option ℕ) (z x y : ℕ) → is_servable p (record { map = m; z = z; x = x; y = y }) ≡ true → IsServed p (key_of (record { map = m; z = z; x = x; y = y }))
    go None z x y h = let never : false ≡ true = h in cc
    go (Some m) z x y h =
        let low_x = low_fits x (2 ^ z) (grind arith) in
        let low_y = low_fits y (2 ^ z) (grind arith) in
        record { servable = grind arith; key_is = λ i. record { map = m; meta = record { z = z; x = low_again x i; y = low_again y i } } }

-- what is put in a queue is servable
pub placed_served : (t : Tests) (n : ℕ) → places (answer_by t n) ≡ true → t.servable ≡ true
unfolding answer_by answer_of_waiting
placed_served t n h = grind arith

ask_served : (p : Plan) (g : List Entry) (conn : Conn) (command : Cmd) (spot : Spot) (answer : AskAnswer) → answer ≡ ask_rule p g conn command spot → places answer ≡ true → IsServed p (key_of spot)
ask_served p g conn command spot answer is put = go (is_dirty_command command) refl
  where
    go : (b : Bool) → is_dirty_command command ≡ b → IsServed p (key_of spot)
    go true dirty = let silent : answer ≡ Silent = is ∙ ask_dirty p g conn command spot dirty in let never : false ≡ true = rw silent at put in cc
    go false dirty = served p spot (placed_served (tests_of p g conn command spot) (numbers g) (sym (ap places (is ∙ ask_render p g conn command spot dirty)) ∙ put))

abbrev pub OnServed : Plan → Waits → Type 0
OnServed p w = IsServed p w.key

answer_each : (p : Plan) (answer : AskAnswer) (own : Queue) (k : Key) (ws : List Waits) → (places answer ≡ true → IsServed p k) → Each (OnServed p) ws → Each (OnServed p) (after_answer answer own k ws)
answer_each p (Queued n) own k ws new old = each-append (OnServed p) ws _ old (new refl)
answer_each p (Lifted n) own k ws new old = each-append (OnServed p) (without_key k ws) _ (each-filter (OnServed p) _ ws old) (new refl)
answer_each p (NotDone Deferred) own k ws new old = each-append (OnServed p) ws _ old (new refl)
answer_each p (NotDone _) own k ws new old = old
answer_each p _ own k ws new old = old

dirty_each : (p : Plan) (limits : Limits) (k : Key) (ws : List Waits) → IsServed p k → Each (OnServed p) ws → Each (OnServed p) (with_dirty limits k ws)
dirty_each p limits k ws new old = go (has_room limits Queue.Dirty ws)
  where
    go : (b : Bool) → Each (OnServed p) (cond b (ws ++ record { queue = Queue.Dirty; key = k } ∷ []) ws)
    go true = each-append (OnServed p) ws _ old new
    go false = old

waiting_by_ask : (p : Plan) (g : List Entry) (conn : Conn) (command : Cmd) (spot : Spot) (answer : AskAnswer) → answer ≡ ask_rule p g conn command spot → Each (OnServed p) (waiting p g) → Each (OnServed p) (waiting p (Ask conn command spot answer ∷ g))
unfolding waiting
waiting_by_ask p g conn command spot answer is old = go (touches p g (Ask conn command spot answer) (key_of spot) && not (waits_in (waiting p g) (key_of spot) || flies g (key_of spot))) refl
  where
    ws : List Waits
    ws = after_answer answer (own_queue command) (key_of spot) (waiting p g)

    each : Each (OnServed p) ws
    each = answer_each p answer (own_queue command) (key_of spot) (waiting p g) (ask_served p g conn command spot answer is) old

    go : (b : Bool) → touches p g (Ask conn command spot answer) (key_of spot) && not (waits_in (waiting p g) (key_of spot) || flies g (key_of spot)) ≡ b → Each (OnServed p) (cond b (with_dirty p.limits (key_of spot) ws) ws)
    go true tested = dirty_each p p.limits (key_of spot) ws (served p spot (grind arith)) each
    go false tested = each

abbrev pub FlightServed : Plan → Flight → Type 0
FlightServed p f = IsServed p f.key

waiting_by_finish : (p : Plan) (g : List Entry) (t : ℕ) (drawn : Bool) (answer : Finished) → Each (FlightServed p) (flights g) → Each (OnServed p) (waiting p g) → Each (OnServed p) (waiting p (Finish t drawn answer ∷ g))
unfolding waiting
waiting_by_finish p g t drawn (Stored false) flying old = go (flight_in (flights g) t) refl
  where
    go : (o : Option Flight) → flight_in (flights g) t ≡ o → Each (OnServed p) (after_stale p.limits o (waiting p g))
    go None is = old
    go (Some f) is = dirty_each p p.limits f.key (waiting p g) (each-find (FlightServed p) _ (flights g) f flying is) old
waiting_by_finish p g t drawn (Stored true) flying old = old
waiting_by_finish p g t drawn PutFailed flying old = old
waiting_by_finish p g t drawn Finished.NoMemory flying old = old

pub record AreServed (p : Plan) (h : List Entry) : Type 0 where
  pub rests : Each (OnServed p) (waiting p h)
  pub flying : Each (FlightServed p) (flights h)

pub are_served : (p : Plan) (told : Bool) (h : List Entry) → Legal p told h → AreServed p h
unfolding Fits waiting flights
are_served p told [] legal = record { rests = tt; flying = tt }
are_served p told (Ask conn command spot answer ∷ g) legal =
    let old = are_served p told g legal.1 in record { rests = waiting_by_ask p g conn command spot answer legal.0 old.rests; flying = old.flying }
are_served p told (Claim worker (Job t k v) ∷ g) legal =
    let old = are_served p told g legal.1 in
    let j = job_is_next p g t k v legal.0 in
    record {
      rests = each-filter (OnServed p) _ (waiting p g) old.rests;
      flying = each-append (FlightServed p) (flights g) _ old.flying (subst (IsServed p) (sym j.key_is) (next_found (OnServed p) (waiting p g) j.taken old.rests j.is_next));
    }
are_served p told (Finish t drawn answer ∷ g) legal =
    let old = are_served p told g legal.1 in
    record { rests = waiting_by_finish p g t drawn answer old.flying old.rests; flying = each-filter (FlightServed p) _ (flights g) old.flying }
are_served p told (e ∷ g) legal = let old = are_served p told g legal.1 in record { rests = old.rests; flying = old.flying }

served_by_stored : (p : Plan) (t : ℕ) (g : List Entry) (k : Key) (before : List Entry) (o : Option Flight) → flight_in (flights g) t ≡ o → Each (FlightServed p) (flights g) → (shown g k ≡ Some before → IsServed p k) →
    stored_on o k (shown g k) ≡ Some before → IsServed p k
served_by_stored p t g k before None is flying old s = old s
served_by_stored p t g k before (Some f) is flying old s = go (same_key f.key k) refl s
  where
    go : (b : Bool) → same_key f.key k ≡ b → cond b (Some f.before) (shown g k) ≡ Some before → IsServed p k
    go true same s = subst (IsServed p) (same_key-true f.key k same) (each-find (FlightServed p) _ (flights g) f flying is)
    go false other s = old s

served_by_lost : (p : Plan) (g : List Entry) (k : Key) (before : List Entry) (b : Bool) → (shown g k ≡ Some before → IsServed p k) → cond b None (shown g k) ≡ Some before → IsServed p k
served_by_lost p g k before true old s = cc
served_by_lost p g k before false old s = old s

-- what is shown is served
pub shown_served : (p : Plan) (told : Bool) (h : List Entry) (k : Key) (before : List Entry) → Legal p told h → shown h k ≡ Some before → IsServed p k
unfolding shown
shown_served p told [] k before legal s = cc
shown_served p told (Finish t drawn (Stored clean) ∷ g) k before legal s =
    served_by_stored p t g k before (flight_in (flights g) t) refl (are_served p told g legal.1).flying (λ s'. shown_served p told g k before legal.1 s') s
shown_served p told (Finish t drawn PutFailed ∷ g) k before legal s = served_by_lost p g k before (is_on (flight_in (flights g) t) k) (λ s'. shown_served p told g k before legal.1 s') s
shown_served p told (e ∷ g) k before legal s = shown_served p told g k before legal.1 s
