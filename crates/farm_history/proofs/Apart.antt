-- In a legal history a key never waits and flies at once, a clean one does neither, no key waits twice, and no two flights have one key.
use Rattle.std.proofs.Common.{◌≡◌, ℕ, ◌⊎◌, inl, inr, Bool, true, false, not, ◌&&◌, ◌||◌, cond, ◌==◌, List, [], ◌∷◌, ◌++◌, length, Option, Some, None, refl, sym, ap, ◌∙◌, subst, arith}
use Rattle.std.specs.Option.{option_or}
use Rattle.farm_history.specs.declared.keys.Key.{Key}
use Rattle.farm_history.specs.declared.queues.Conn.{Conn}
use Rattle.farm_history.specs.declared.queues.Queue.{Queue}
use Rattle.farm_history.specs.declared.queues.Limits.{Limits}
use Rattle.farm_history.specs.declared.asks.Cmd.{Cmd}
use Rattle.farm_history.specs.declared.asks.Spot.{Spot}
use Rattle.farm_history.specs.declared.asks.Why.TheVariants.{Deferred}
use Rattle.farm_history.specs.declared.asks.AskAnswer.{AskAnswer}
use Rattle.farm_history.specs.declared.asks.AskAnswer.TheVariants.{Queued, Lifted, NotDone, Silent}
use Rattle.farm_history.specs.declared.answers.ClaimAnswer.{ClaimAnswer}
use Rattle.farm_history.specs.declared.answers.ClaimAnswer.TheVariants.{Job, Crowded}
use Rattle.farm_history.specs.declared.answers.Finished.{Finished}
use Rattle.farm_history.specs.declared.answers.Finished.TheVariants.{Stored, PutFailed}
use Rattle.farm_history.specs.Entries.{Entry, Ask, Claim, Finish}
use Rattle.farm_history.specs.Plans.{Plan, Waits, AreApart, same_key, key_of, is_dirty_command, own_queue, waits_in, without_key, has_room, same_queue, first_in, next}
use Rattle.farm_history.specs.Past.{Flight, is_stopped, version, flights, flight_in, without_ticket, flies_in, flies, jobs, stored_on, lost_on, shown, touches, is_touched_after, is_clean, with_dirty, after_answer, waiting, waits, numbers}
use Rattle.farm_history.specs.Rules.{ask_rule, job_of, claim_rule, EndFits, FlightFits, Fits, Legal}
use Rattle.farm_history.specs.inner.Asks.{Tests, answer_of_waiting, answer_by, tests_of}
use Rattle.farm_history.specs.Laws.{AtMostOne, flight_key}
use Rattle.farm_history.proofs.Lists.{same_key-true, same_key-self, same_key-sym, any-append, any-filter, not_any, find-any, find-not, waits_without_same, waits_without_other, apart-append, apart-filter}
use Rattle.farm_history.proofs.Places.{shown_earlier, fresh_less, stale_stays, touched_stale}

abbrev pub waits_key : Waits → Key
waits_key w = w.key

-- What an answer says of the tests.

-- whether the answer puts the key in a queue
abbrev pub places : AskAnswer → Bool
places (Queued n) = true
places (Lifted n) = true
places (NotDone Deferred) = true
places _ = false

-- whether it puts a key there that did not wait
abbrev pub appends : AskAnswer → Bool
appends (Queued n) = true
appends (NotDone Deferred) = true
appends _ = false

-- what is put in a queue is neither clean nor being drawn
pub placed_by : (t : Tests) (n : ℕ) → places (answer_by t n) ≡ true → (t.clean ≡ false) × (t.flies ≡ false)
unfolding answer_by answer_of_waiting
placed_by t n h = (grind arith, grind arith)

-- and where it is new there, it did not wait
pub appended_by : (t : Tests) (n : ℕ) → appends (answer_by t n) ≡ true → t.waits ≡ false
unfolding answer_by answer_of_waiting
appended_by t n h = grind arith

-- what an ask is answered by its command
pub ask_dirty : (p : Plan) (g : List Entry) (conn : Conn) (command : Cmd) (spot : Spot) → is_dirty_command command ≡ true → ask_rule p g conn command spot ≡ Silent
ask_dirty p g conn command spot h = rw h refl

pub ask_render : (p : Plan) (g : List Entry) (conn : Conn) (command : Cmd) (spot : Spot) → is_dirty_command command ≡ false → ask_rule p g conn command spot ≡ answer_by (tests_of p g conn command spot) (numbers g)
unfolding answer_by answer_of_waiting
ask_render p g conn command spot h = ap (λ (b : Bool). cond b Silent (answer_by (tests_of p g conn command spot) (numbers g))) h

-- How answers change what waits.

pub answer_other : (answer : AskAnswer) (own : Queue) (k j : Key) (ws : List Waits) → same_key k j ≡ false → waits_in (after_answer answer own k ws) j ≡ waits_in ws j
answer_other (Queued n) own k j ws h = any-append _ ws _ ∙ grind arith
answer_other (Lifted n) own k j ws h = any-append _ (without_key k ws) _ ∙ grind (arith, waits_without_other k j ws h)
answer_other (NotDone Deferred) own k j ws h = any-append _ ws _ ∙ grind arith
answer_other (NotDone _) own k j ws h = refl
answer_other _ own k j ws h = refl

pub answer_same : (answer : AskAnswer) (own : Queue) (k : Key) (ws : List Waits) → places answer ≡ false → after_answer answer own k ws ≡ ws
answer_same (Queued n) own k ws h = cc
answer_same (Lifted n) own k ws h = cc
answer_same (NotDone Deferred) own k ws h = cc
answer_same (NotDone _) own k ws h = refl
answer_same _ own k ws h = refl

pub answer_apart : (answer : AskAnswer) (own : Queue) (k : Key) (ws : List Waits) → (appends answer ≡ true → waits_in ws k ≡ false) → AreApart waits_key ws → AreApart waits_key (after_answer answer own k ws)
answer_apart (Queued n) own k ws new apart = apart-append waits_key ws _ apart (new refl)
answer_apart (Lifted n) own k ws new apart = apart-append waits_key (without_key k ws) _ (apart-filter waits_key _ ws apart) (waits_without_same k ws)
answer_apart (NotDone Deferred) own k ws new apart = apart-append waits_key ws _ apart (new refl)
answer_apart (NotDone _) own k ws new apart = apart
answer_apart _ own k ws new apart = apart

pub dirty_other : (limits : Limits) (k j : Key) (ws : List Waits) → same_key k j ≡ false → waits_in (with_dirty limits k ws) j ≡ waits_in ws j
dirty_other limits k j ws h = go (has_room limits Queue.Dirty ws)
  where
    go : (b : Bool) → waits_in (cond b (ws ++ record { queue = Queue.Dirty; key = k } ∷ []) ws) j ≡ waits_in ws j
    go true = any-append _ ws _ ∙ grind arith
    go false = refl

pub dirty_apart : (limits : Limits) (k : Key) (ws : List Waits) → waits_in ws k ≡ false → AreApart waits_key ws → AreApart waits_key (with_dirty limits k ws)
dirty_apart limits k ws new apart = go (has_room limits Queue.Dirty ws)
  where
    go : (b : Bool) → AreApart waits_key (cond b (ws ++ record { queue = Queue.Dirty; key = k } ∷ []) ws)
    go true = apart-append waits_key ws _ apart new
    go false = apart

-- The invariant.

pub record Kept (p : Plan) (h : List Entry) : Type 0 where
  -- of each key
  pub rests : (k : Key) → AtMostOne (waits p h k) (flies h k) (is_clean p h k)
  -- no two flights have one key
  pub single : AreApart flight_key (flights h)
  -- no key waits twice
  pub lone : AreApart waits_key (waiting p h)

-- what is less, or newly waits without flying and clean, keeps it
pub rests_more : {a b c x y z : Bool} → AtMostOne a b c → (x ≡ true → (a ≡ true) ⊎ ((y ≡ false) × (z ≡ false))) → (y ≡ true → b ≡ true) → (z ≡ true → c ≡ true) → AtMostOne x y z
rests_more {a} {b} {c} {x} {y} {z} r w f s = record {
  not_both = λ e. elim (w e) [ inl h ↦ grind arith | inr h ↦ h.0 ];
  clean_not_flying = λ e. grind arith;
  clean_not_waiting = λ e. grind arith;
}

-- what is less keeps it
pub rests_less : {a b c x y z : Bool} → AtMostOne a b c → (x ≡ true → a ≡ true) → (y ≡ true → b ≡ true) → (z ≡ true → c ≡ true) → AtMostOne x y z
rests_less r w f s = rests_more r (λ e. inl (w e)) f s

-- Asks.

-- what an ask makes wait neither flies nor is clean
ask_waits : (p : Plan) (g : List Entry) (conn : Conn) (command : Cmd) (spot : Spot) (answer : AskAnswer) → answer ≡ ask_rule p g conn command spot → (j : Key) →
    waits p (Ask conn command spot answer ∷ g) j ≡ true → (waits p g j ≡ true) ⊎ ((flies g j ≡ false) × (is_clean p (Ask conn command spot answer ∷ g) j ≡ false))
unfolding waiting flights shown
ask_waits p g conn command spot answer is j h = at (same_key (key_of spot) j) refl
  where
    e : Entry
    e = Ask conn command spot answer

    k : Key
    k = key_of spot

    ws : List Waits
    ws = after_answer answer (own_queue command) (key_of spot) (waiting p g)

    test : Bool
    test = touches p g e k && not (waits_in (waiting p g) k || flies g k)

    elsewhere : same_key k j ≡ false → (b : Bool) → waits_in (cond b (with_dirty p.limits k ws) ws) j ≡ waits_in (waiting p g) j
    elsewhere other true = dirty_other p.limits k j ws other ∙ answer_other answer (own_queue command) k j (waiting p g) other
    elsewhere other false = answer_other answer (own_queue command) k j (waiting p g) other

    render : (b : Bool) → is_dirty_command command ≡ b → places answer ≡ true → (flies g k ≡ false) × (is_clean p (e ∷ g) k ≡ false)
    render true dirty put = let silent : answer ≡ Silent = is ∙ ask_dirty p g conn command spot dirty in let never : false ≡ true = rw silent at put in cc
    render false dirty put =
        let by = placed_by (tests_of p g conn command spot) (numbers g) (sym (ap places (is ∙ ask_render p g conn command spot dirty)) ∙ put) in
        (by.1, stale_stays p g e (shown g k) k by.0)

    placed : (b : Bool) → places answer ≡ b → waits_in ws k ≡ true → (waits p g k ≡ true) ⊎ ((flies g k ≡ false) × (is_clean p (e ∷ g) k ≡ false))
    placed true by there = inr (render (is_dirty_command command) refl by)
    placed false by there = inl (rw (answer_same answer (own_queue command) k (waiting p g) by) at there)

    here : (b : Bool) → test ≡ b → waits_in (cond b (with_dirty p.limits k ws) ws) k ≡ true → (waits p g k ≡ true) ⊎ ((flies g k ≡ false) × (is_clean p (e ∷ g) k ≡ false))
    here true tested there = inr (grind arith, touched_stale p g e (shown g k) k (shown_earlier g k) (grind arith))
    here false tested there = placed (places answer) refl there

    at : (b : Bool) → same_key k j ≡ b → (waits p g j ≡ true) ⊎ ((flies g j ≡ false) × (is_clean p (e ∷ g) j ≡ false))
    at true same = subst (λ (x : Key). (waits p g x ≡ true) ⊎ ((flies g x ≡ false) × (is_clean p (e ∷ g) x ≡ false))) (same_key-true k j same) (here test refl (rw (sym (same_key-true k j same)) at h))
    at false other = inl (sym (elsewhere other test) ∙ h)

kept_by_ask : (p : Plan) (g : List Entry) (conn : Conn) (command : Cmd) (spot : Spot) (answer : AskAnswer) → answer ≡ ask_rule p g conn command spot → Kept p g → Kept p (Ask conn command spot answer ∷ g)
unfolding waiting flights shown
kept_by_ask p g conn command spot answer is old = record {
  rests = λ j. rests_more (old.rests j) (ask_waits p g conn command spot answer is j) (λ f. f) (fresh_less p g (Ask conn command spot answer) (shown g j) j);
  single = old.single;
  lone = lone (touches p g (Ask conn command spot answer) k && not (waits_in (waiting p g) k || flies g k)) refl;
}
  where
    k : Key
    k = key_of spot

    ws : List Waits
    ws = after_answer answer (own_queue command) (key_of spot) (waiting p g)

    new : (b : Bool) → is_dirty_command command ≡ b → appends answer ≡ true → waits_in (waiting p g) k ≡ false
    new true dirty put = let silent : answer ≡ Silent = is ∙ ask_dirty p g conn command spot dirty in let never : false ≡ true = rw silent at put in cc
    new false dirty put = appended_by (tests_of p g conn command spot) (numbers g) (sym (ap appends (is ∙ ask_render p g conn command spot dirty)) ∙ put)

    apart : AreApart waits_key ws
    apart = answer_apart answer (own_queue command) k (waiting p g) (new (is_dirty_command command) refl) old.lone

    same : is_dirty_command command ≡ true → ws ≡ waiting p g
    same dirty = ap (λ a. after_answer a (own_queue command) k (waiting p g)) (is ∙ ask_dirty p g conn command spot dirty)

    lone : (b : Bool) → touches p g (Ask conn command spot answer) k && not (waits_in (waiting p g) k || flies g k) ≡ b → AreApart waits_key (cond b (with_dirty p.limits k ws) ws)
    lone true tested = dirty_apart p.limits k ws (ap (λ xs. waits_in xs k) (same (grind arith)) ∙ grind arith) apart
    lone false tested = apart

-- Claims.

or_either : {P : Type 0} (a b : Option Waits) (w : Waits) → (a ≡ Some w → P) → (b ≡ Some w → P) → option_or a b ≡ Some w → P
or_either None b w f g h = g h
or_either (Some x) b w f g h = f h

-- what is taken next waits
pub next_waits : (ws : List Waits) (w : Waits) → next ws ≡ Some w → waits_in ws w.key ≡ true
unfolding next
next_waits ws w h =
    or_either _ _ w (found Queue.Prio) (or_either _ _ w (found Queue.Request) (or_either _ _ w (found Queue.Low) (or_either _ _ w (found Queue.Dirty) (found Queue.Bulk)))) h
  where
    found : (q : Queue) → first_in ws q ≡ Some w → waits_in ws w.key ≡ true
    found q e = find-any (λ x. same_queue x.queue q) (λ x. same_key x.key w.key) ws w e (same_key-self w.key)

-- what a Claim answered Job says: no Stop came, the key is taken next, the ticket is the number of Jobs, and the version is the newest
pub record IsJob (p : Plan) (g : List Entry) (t : ℕ) (k : Key) (v : ℕ) : Type 0 where
  pub taken : Waits
  pub is_next : next (waiting p g) ≡ Some taken
  pub key_is : k ≡ taken.key
  pub ticket_is : t ≡ jobs g
  pub version_is : v ≡ version g

pub job_is_next : (p : Plan) (g : List Entry) (t : ℕ) (k : Key) (v : ℕ) → Job t k v ≡ claim_rule p g → IsJob p g t k v
job_is_next p g t k v h = stopped (is_stopped g) h
  where
    job : (o : Option Waits) → next (waiting p g) ≡ o → Job t k v ≡ job_of o (jobs g) (version g) → IsJob p g t k v
    job None e is = cc
    job (Some w) e is = record { taken = w; is_next = e; key_is = cc; ticket_is = cc; version_is = cc }

    crowded : (b : Bool) → Job t k v ≡ cond b Crowded (job_of (next (waiting p g)) (jobs g) (version g)) → IsJob p g t k v
    crowded true is = cc
    crowded false is = job (next (waiting p g)) refl is

    stopped : (b : Bool) → Job t k v ≡ cond b ClaimAnswer.Stopped (cond (length (flights g) == p.workers) Crowded (job_of (next (waiting p g)) (jobs g) (version g))) → IsJob p g t k v
    stopped true is = cc
    stopped false is = crowded (length (flights g) == p.workers) is

-- the key of a Job waits before it
pub job_waits : (p : Plan) (g : List Entry) (t : ℕ) (k : Key) (v : ℕ) → Job t k v ≡ claim_rule p g → waits p g k ≡ true
job_waits p g t k v h = let j = job_is_next p g t k v h in rw j.key_is (next_waits (waiting p g) j.taken j.is_next)

kept_by_claim : (p : Plan) (g : List Entry) (worker t : ℕ) (k : Key) (v : ℕ) → Job t k v ≡ claim_rule p g → Kept p g → Kept p (Claim worker (Job t k v) ∷ g)
unfolding waiting flights shown
kept_by_claim p g worker t k v is old = record {
  rests = λ j. at j (same_key k j) refl;
  single = apart-append flight_key (flights g) _ old.single grounded;
  lone = apart-filter waits_key _ (waiting p g) old.lone;
}
  where
    e : Entry
    e = Claim worker (Job t k v)

    waited : waits p g k ≡ true
    waited = job_waits p g t k v is

    grounded : flies g k ≡ false
    grounded = (old.rests k).not_both waited

    here : AtMostOne (waits p (e ∷ g) k) (flies (e ∷ g) k) (is_clean p (e ∷ g) k)
    here = record {
      not_both = λ w. let never = waits_without_same k (waiting p g) in cc;
      clean_not_flying = λ c. let never = (old.rests k).clean_not_waiting (fresh_less p g e (shown g k) k c) in let still = waited in cc;
      clean_not_waiting = λ c. waits_without_same k (waiting p g);
    }

    at : (j : Key) (b : Bool) → same_key k j ≡ b → AtMostOne (waits p (e ∷ g) j) (flies (e ∷ g) j) (is_clean p (e ∷ g) j)
    at j true same = subst (λ (x : Key). AtMostOne (waits p (e ∷ g) x) (flies (e ∷ g) x) (is_clean p (e ∷ g) x)) (same_key-true k j same) here
    at j false other =
        rests_less (old.rests j) (λ w. sym (waits_without_other k j (waiting p g) other) ∙ w)
        (λ f. let split = any-append (λ (x : Flight). same_key x.key j) (flights g) (record { ticket = t; key = k; before = g } ∷ []) in grind arith) (fresh_less p g e (shown g j) j)

-- Ends of drawings.

-- after its Finish a key doesn't fly
pub gone : (t : ℕ) (fs : List Flight) (f : Flight) → AreApart flight_key fs → flight_in fs t ≡ Some f → flies_in (without_ticket t fs) f.key ≡ false
gone t [] f apart e = cc
gone t (x ∷ xs) f apart e = go (x.ticket == t) (gone t xs f apart.1) e
  where
    go : (b : Bool) → (flight_in xs t ≡ Some f → flies_in (without_ticket t xs) f.key ≡ false) → cond b (Some x) (flight_in xs t) ≡ Some f → flies_in (cond (not b) (x ∷ without_ticket t xs) (without_ticket t xs)) f.key ≡ false
    go true ih is = let same : x ≡ f = cc in rw (← same) (not_any (λ y. same_key y.key x.key) _ xs apart.0)
    go false ih is = let other = find-not (λ y. y.ticket == t) (λ y. same_key y.key x.key) xs f is apart.0 in grind (arith, ih is, same_key-sym x.key f.key)

-- how a Finish changes what is shown of its key and of others
pub stored_here : (o : Option Flight) (f : Flight) (otherwise : Option (List Entry)) → o ≡ Some f → stored_on o f.key otherwise ≡ Some f.before
stored_here o f otherwise e = rw (e, same_key-self f.key) refl

pub stored_other : (o : Option Flight) (f : Flight) (j : Key) (otherwise : Option (List Entry)) → o ≡ Some f → same_key f.key j ≡ false → stored_on o j otherwise ≡ otherwise
stored_other o f j otherwise e other = rw (e, other) refl

pub lost_here : (o : Option Flight) (f : Flight) (otherwise : Option (List Entry)) → o ≡ Some f → lost_on o f.key otherwise ≡ None
lost_here o f otherwise e = rw (e, same_key-self f.key) refl

pub lost_other : (o : Option Flight) (f : Flight) (j : Key) (otherwise : Option (List Entry)) → o ≡ Some f → same_key f.key j ≡ false → lost_on o j otherwise ≡ otherwise
lost_other o f j otherwise e other = rw (e, other) refl

-- what flies neither waits nor is clean
pub flying_alone : {a b c : Bool} → AtMostOne a b c → b ≡ true → (a ≡ false) × (c ≡ false)
flying_alone {a} {b} {c} r h = (grind arith, grind arith)

-- what a Finish leaves of its key: it doesn't fly, and where it is clean it doesn't wait
landed : (p : Plan) (g : List Entry) (t : ℕ) (drawn : Bool) (answer : Finished) (f : Flight) → flight_in (flights g) t ≡ Some f → EndFits p g f drawn answer → Kept p g →
    AtMostOne (waits p (Finish t drawn answer ∷ g) f.key) (flies (Finish t drawn answer ∷ g) f.key) (is_clean p (Finish t drawn answer ∷ g) f.key)
unfolding waiting flights shown is_touched_after
landed p g t drawn answer f is fits old = go answer drawn fits
  where
    down : flies_in (without_ticket t (flights g)) f.key ≡ false
    down = gone t (flights g) f old.single is

    flew : flies g f.key ≡ true
    flew = find-any (λ x. x.ticket == t) (λ x. same_key x.key f.key) (flights g) f is (same_key-self f.key)

    unwaited : waits p g f.key ≡ false
    unwaited = (flying_alone (old.rests f.key) flew).0

    go : (a : Finished) (d : Bool) → EndFits p g f d a → AtMostOne (waits p (Finish t d a ∷ g) f.key) (flies (Finish t d a ∷ g) f.key) (is_clean p (Finish t d a ∷ g) f.key)
    go (Stored true) false no_way = absurd no_way
    go (Stored false) false no_way = absurd no_way
    go (Stored true) true untouched = record { not_both = λ w. down; clean_not_flying = λ c. down; clean_not_waiting = λ c. unwaited }
    go (Stored false) true stale = record { not_both = λ w. down; clean_not_flying = λ c. down; clean_not_waiting = λ c. let dirty = rw (stored_here (flight_in (flights g) t) f (shown g f.key) is) at c in let stale' = stale in grind arith }
    go PutFailed d fine = record { not_both = λ w. down; clean_not_flying = λ c. down; clean_not_waiting = λ c. unwaited }
    go Finished.NoMemory d fine = record { not_both = λ w. down; clean_not_flying = λ c. down; clean_not_waiting = λ c. unwaited }

kept_by_flight : (p : Plan) (g : List Entry) (t : ℕ) (drawn : Bool) (answer : Finished) (f : Flight) → flight_in (flights g) t ≡ Some f → EndFits p g f drawn answer → Kept p g → Kept p (Finish t drawn answer ∷ g)
unfolding waiting flights shown
kept_by_flight p g t drawn answer f is fits old = record {
  rests = λ j. at j (same_key f.key j) refl;
  single = apart-filter flight_key _ (flights g) old.single;
  lone = lone answer;
}
  where
    unwaited : waits p g f.key ≡ false
    unwaited = (flying_alone (old.rests f.key) (find-any (λ x. x.ticket == t) (λ x. same_key x.key f.key) (flights g) f is (same_key-self f.key))).0

    lone : (a : Finished) → AreApart waits_key (waiting p (Finish t drawn a ∷ g))
    lone (Stored false) = rw is (dirty_apart p.limits f.key (waiting p g) unwaited old.lone)
    lone (Stored true) = old.lone
    lone PutFailed = old.lone
    lone Finished.NoMemory = old.lone

    fewer : (j : Key) → flies_in (without_ticket t (flights g)) j ≡ true → flies g j ≡ true
    fewer j h = any-filter (λ x. same_key x.key j) _ (flights g) h

    elsewhere : (j : Key) → same_key f.key j ≡ false → (a : Finished) → AtMostOne (waits p (Finish t drawn a ∷ g) j) (flies (Finish t drawn a ∷ g) j) (is_clean p (Finish t drawn a ∷ g) j)
    elsewhere j other (Stored true) =
        rests_less (old.rests j) (λ w. w) (fewer j) (λ c. fresh_less p g (Finish t drawn (Stored true)) (shown g j) j (rw (stored_other (flight_in (flights g) t) f j (shown g j) is other) at c))
    elsewhere j other (Stored false) =
        rests_less (old.rests j) (λ w. sym (dirty_other p.limits f.key j (waiting p g) other) ∙ (rw is at w)) (fewer j)
        (λ c. fresh_less p g (Finish t drawn (Stored false)) (shown g j) j (rw (stored_other (flight_in (flights g) t) f j (shown g j) is other) at c))
    elsewhere j other PutFailed =
        rests_less (old.rests j) (λ w. w) (fewer j) (λ c. fresh_less p g (Finish t drawn PutFailed) (shown g j) j (rw (lost_other (flight_in (flights g) t) f j (shown g j) is other) at c))
    elsewhere j other Finished.NoMemory = rests_less (old.rests j) (λ w. w) (fewer j) (fresh_less p g (Finish t drawn Finished.NoMemory) (shown g j) j)

    e : Entry
    e = Finish t drawn answer

    at : (j : Key) (b : Bool) → same_key f.key j ≡ b → AtMostOne (waits p (e ∷ g) j) (flies (e ∷ g) j) (is_clean p (e ∷ g) j)
    at j true same = subst (λ (x : Key). AtMostOne (waits p (e ∷ g) x) (flies (e ∷ g) x) (is_clean p (e ∷ g) x)) (same_key-true f.key j same) (landed p g t drawn answer f is fits old)
    at j false other = elsewhere j other answer

kept_by_finish : (p : Plan) (g : List Entry) (t : ℕ) (drawn : Bool) (answer : Finished) (o : Option Flight) → flight_in (flights g) t ≡ o → FlightFits p g o drawn answer → Kept p g → Kept p (Finish t drawn answer ∷ g)
kept_by_finish p g t drawn answer None is fits old = absurd fits
kept_by_finish p g t drawn answer (Some f) is fits old = kept_by_flight p g t drawn answer f is fits old

-- each legal history keeps it
pub kept : (p : Plan) (told : Bool) (h : List Entry) → Legal p told h → Kept p h
unfolding Fits waiting flights shown
kept p told [] legal = record { rests = λ k. record { not_both = λ w. refl; clean_not_flying = λ c. refl; clean_not_waiting = λ c. refl }; single = tt; lone = tt }
kept p told (Ask conn command spot answer ∷ g) legal = kept_by_ask p g conn command spot answer legal.0 (kept p told g legal.1)
kept p told (Claim worker (Job t k v) ∷ g) legal = kept_by_claim p g worker t k v legal.0 (kept p told g legal.1)
kept p told (Finish t drawn answer ∷ g) legal = kept_by_finish p g t drawn answer (flight_in (flights g) t) refl legal.0 (kept p told g legal.1)
kept p told (e ∷ g) legal =
    let old = kept p told g legal.1 in
    record { rests = λ k. rests_less (old.rests k) (λ w. w) (λ f. f) (fresh_less p g e (shown g k) k); single = old.single; lone = old.lone }

-- a key never waits and flies at once, and a clean one does neither
pub apart : Rattle.farm_history.specs.Laws.LawApart
apart p told h legal = (kept p told h legal).rests
