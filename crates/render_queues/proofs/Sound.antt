-- What is true of all tables stays true at each step.
use Rattle.std.proofs.Common.{suc, ◌≡◌, ℕ, ◌+◌, ◌<◌, ◌≤◌, Bool, true, false, not, cond, List, [], ◌∷◌, ◌++◌, length, map, filter, count_by, Option, Some, None, refl, sym, ap, ap₂, subst, ◌∙◌, arith}
use Rattle.std.specs.Prelude.{IsSome, option_map}
use Rattle.std.proofs.lemmas.Bool.Decides.{nat_tests}
use Rattle.std.proofs.lemmas.List.{length-append, length-map}
use Rattle.farm_history.specs.declared.keys.Key.{Key}
use Rattle.farm_history.specs.declared.queues.Conn.{Conn}
use Rattle.farm_history.specs.declared.queues.Limits.{Limits}
use Rattle.farm_history.specs.declared.queues.Outcome.{Outcome}
use Rattle.farm_history.specs.declared.queues.Queue.{Queue}
use Rattle.farm_history.specs.declared.queues.Reply.{Reply}
use Rattle.farm_history.specs.declared.queues.Waiter.{Waiter}
use Rattle.farm_history.specs.Lists.{without_first}
use Rattle.farm_history.specs.Plans.{Waits, same_key}
use Rattle.farm_history.proofs.Lists.{same_key-true, same_key-self}
use Rattle.farm_history.proofs.Counts.{count-cons}
use Rattle.farm_history.proofs.Opens.{count-append}
use Rattle.render_queues.specs.OneQueue.{Line, Lines, without, line_without, is_below}
use Rattle.render_queues.specs.declared.asks.Asked.{Asked}
use Rattle.render_queues.specs.Tables.{Tables, AreSound, IsWithin, no_tables, line_of, with_line, with_last, cut_from, lifted_out, out_of_all, after_lift, after_place, after_join, next_of, standing, is_liftable, takes_lifted, after_take, after_end, after_leave, waits_on, reply_with, asked_by, replies_to_conn, open_count, how_often, waits_often, stands_often, chain_length}
use Rattle.render_queues.proofs.Ends.{filter_fewer}
use Rattle.render_queues.proofs.Keys.{without_few}
use Rattle.render_queues.proofs.Counted.{often_last, often_without, there_once, often_more, often_pushed, often_cut, stands_never, liftable_waits, out_of_one, next_there}

-- empty tables
pub sound_none : (limits : Limits) (workers : ℕ) → AreSound (no_tables limits workers)
sound_none limits workers = record { once = λ k. omega arith; awaited = λ k h. refl; within = empty; few_taken = omega arith; few_asks = omega arith }
  where
    empty : (queue : Queue) → IsWithin (line_of (no_tables limits workers).lines queue)
    empty Queue.Prio = omega arith
    empty Queue.Request = omega arith
    empty Queue.Low = omega arith
    empty Queue.Dirty = omega arith
    empty Queue.Bulk = omega arith

-- another line in place of a queue's, within its limit
within_with : (ls : Lines) (queue : Queue) (l : Line) → IsWithin l → ((q : Queue) → IsWithin (line_of ls q)) → (q : Queue) → IsWithin (line_of (with_line ls queue l) q)
within_with ls Queue.Prio l new old Queue.Prio = new
within_with ls Queue.Prio l new old Queue.Request = old Queue.Request
within_with ls Queue.Prio l new old Queue.Low = old Queue.Low
within_with ls Queue.Prio l new old Queue.Dirty = old Queue.Dirty
within_with ls Queue.Prio l new old Queue.Bulk = old Queue.Bulk
within_with ls Queue.Request l new old Queue.Prio = old Queue.Prio
within_with ls Queue.Request l new old Queue.Request = new
within_with ls Queue.Request l new old Queue.Low = old Queue.Low
within_with ls Queue.Request l new old Queue.Dirty = old Queue.Dirty
within_with ls Queue.Request l new old Queue.Bulk = old Queue.Bulk
within_with ls Queue.Low l new old Queue.Prio = old Queue.Prio
within_with ls Queue.Low l new old Queue.Request = old Queue.Request
within_with ls Queue.Low l new old Queue.Low = new
within_with ls Queue.Low l new old Queue.Dirty = old Queue.Dirty
within_with ls Queue.Low l new old Queue.Bulk = old Queue.Bulk
within_with ls Queue.Dirty l new old Queue.Prio = old Queue.Prio
within_with ls Queue.Dirty l new old Queue.Request = old Queue.Request
within_with ls Queue.Dirty l new old Queue.Low = old Queue.Low
within_with ls Queue.Dirty l new old Queue.Dirty = new
within_with ls Queue.Dirty l new old Queue.Bulk = old Queue.Bulk
within_with ls Queue.Bulk l new old Queue.Prio = old Queue.Prio
within_with ls Queue.Bulk l new old Queue.Request = old Queue.Request
within_with ls Queue.Bulk l new old Queue.Low = old Queue.Low
within_with ls Queue.Bulk l new old Queue.Dirty = old Queue.Dirty
within_with ls Queue.Bulk l new old Queue.Bulk = new

below_less : (l : Line) → is_below l ≡ true → length l.keys < l.limit
below_less l h = grind (arith, nat_tests)

within_pushed : (ls : Lines) (queue : Queue) (key : Key) → is_below (line_of ls queue) ≡ true → ((q : Queue) → IsWithin (line_of ls q)) → (q : Queue) → IsWithin (line_of (with_last ls queue key) q)
within_pushed ls queue key below old =
    let less = below_less (line_of ls queue) below in
    let long = length-append (line_of ls queue).keys (key ∷ []) in
    within_with ls queue (record (line_of ls queue) { keys = (line_of ls queue).keys ++ key ∷ [] }) (omega (arith, less, long)) old

within_cut : (ls : Lines) (queue : Queue) (key : Key) → ((q : Queue) → IsWithin (line_of ls q)) → (q : Queue) → IsWithin (line_of (cut_from ls queue key) q)
within_cut ls queue key old = within_with ls queue (line_without (line_of ls queue) key) (omega (arith, old queue, without_few key (line_of ls queue).keys)) old

-- a key that stood nowhere is placed
pub sound_placed : (t : Tables) (queue : Queue) (key : Key) → standing t key ≡ None → is_below (line_of t.lines queue) ≡ true → AreSound t → AreSound (after_place t queue key)
sound_placed t queue key none below sound = record {
  once = λ k. go k (same_key key k) refl (often_pushed k t.lines queue key);
  awaited = λ k nowhere. sound.awaited k (omega (arith, often_pushed k t.lines queue key));
  within = within_pushed t.lines queue key below sound.within;
  few_taken = sound.few_taken;
  few_asks = sound.few_asks;
}
  where
    go : (k : Key) (b : Bool) → same_key key k ≡ b → waits_often k (with_last t.lines queue key) ≡ waits_often k t.lines + cond b 1 0 → stands_often k (after_place t queue key) ≤ 1
    go k true is now =
        let never : stands_often k t ≡ 0 = subst (λ j. stands_often j t ≡ 0) (same_key-true key k is) (stands_never t key none) in
        omega arith
    go k false is now =
        omega (arith, sound.once k)

-- a waiter joins the chain of a key that stands
pub sound_joined : (t : Tables) (key : Key) (w : Option Waiter) → 1 ≤ stands_often key t → (IsSome w → open_count t < 4096) → AreSound t → AreSound (after_join t key w)
sound_joined t key None stands few sound = record { once = sound.once; awaited = sound.awaited; within = sound.within; few_taken = sound.few_taken; few_asks = sound.few_asks }
sound_joined t key (Some w) stands few sound = record {
  once = sound.once;
  awaited = λ k nowhere. longer k (same_key key k) refl nowhere (count-append (waits_on k) t.asks (record { key = key; waiter = w } ∷ [])) (count-cons (waits_on k) (record { key = key; waiter = w }) []);
  within = sound.within;
  few_taken = sound.few_taken;
  few_asks = omega (arith, few refl, length-append t.asks (record { key = key; waiter = w } ∷ []));
}
  where
    longer : (k : Key) (b : Bool) → same_key key k ≡ b → stands_often k t ≡ 0 → chain_length k (after_join t key (Some w)) ≡ chain_length k t + count_by (waits_on k) (record { key = key; waiter = w } ∷ []) →
        count_by (waits_on k) (record { key = key; waiter = w } ∷ []) ≡ cond b 1 0 + count_by (waits_on k) [] → chain_length k (after_join t key (Some w)) ≡ 0
    longer k true is nowhere sum one = let here : 1 ≤ stands_often k t = subst (λ j. 1 ≤ stands_often j t) (same_key-true key k is) stands in absurd (omega arith)
    longer k false is nowhere sum one =
        let old = sound.awaited k nowhere in
        omega arith

-- what was placed stands
pub placed_stands : (t : Tables) (queue : Queue) (key : Key) → 1 ≤ stands_often key (after_place t queue key)
placed_stands t queue key =
    let now : waits_often key (with_last t.lines queue key) ≡ waits_often key t.lines + 1 = often_pushed key t.lines queue key ∙ ap (λ (b : Bool). waits_often key t.lines + cond b 1 0) (same_key-self key) in
    omega arith

-- a line that takes a lifted key is not the one that it leaves
pub same_line : (ls : Lines) (queue : Queue) (key : Key) → takes_lifted queue ≡ true → line_of (lifted_out ls key) queue ≡ line_of ls queue
same_line ls Queue.Prio key h = refl
same_line ls Queue.Request key h = refl
same_line ls Queue.Low key h = refl
same_line ls Queue.Dirty key h = cc
same_line ls Queue.Bulk key h = cc

within_lifted_out : (ls : Lines) (key : Key) → ((q : Queue) → IsWithin (line_of ls q)) → (q : Queue) → IsWithin (line_of (lifted_out ls key) q)
within_lifted_out ls key old Queue.Prio = old Queue.Prio
within_lifted_out ls key old Queue.Request = old Queue.Request
within_lifted_out ls key old Queue.Low = old Queue.Low
within_lifted_out ls key old Queue.Dirty = omega (arith, old Queue.Dirty, without_few key ls.dirty.keys)
within_lifted_out ls key old Queue.Bulk = omega (arith, old Queue.Bulk, without_few key ls.bulk.keys)

-- each key stands as often as before when one is lifted
lifted_often : (t : Tables) (queue : Queue) (key : Key) → is_liftable (standing t key) ≡ true → AreSound t → (k : Key) → stands_often k (after_lift t queue key) ≡ stands_often k t
lifted_often t queue key liftable sound k = go (same_key key k) refl (often_pushed k (lifted_out t.lines key) queue key) (often_without k key t.lines.dirty.keys) (often_without k key t.lines.bulk.keys)
  where
    go : (b : Bool) → same_key key k ≡ b → waits_often k (after_lift t queue key).lines ≡ waits_often k (lifted_out t.lines key) + cond b 1 0 →
        how_often k (without key t.lines.dirty.keys) ≡ cond b 0 (how_often k t.lines.dirty.keys) → how_often k (without key t.lines.bulk.keys) ≡ cond b 0 (how_often k t.lines.bulk.keys) →
        stands_often k (after_lift t queue key) ≡ stands_often k t
    go true is now dirty bulk =
        let one : 1 ≤ how_often k t.lines.dirty.keys + how_often k t.lines.bulk.keys = subst (λ j. 1 ≤ how_often j t.lines.dirty.keys + how_often j t.lines.bulk.keys) (same_key-true key k is) (liftable_waits t key liftable) in
        omega (arith, sound.once k)
    go false is now dirty bulk =
        omega arith

pub sound_lifted : (t : Tables) (queue : Queue) (key : Key) → is_liftable (standing t key) ≡ true → takes_lifted queue ≡ true → is_below (line_of t.lines queue) ≡ true → AreSound t → AreSound (after_lift t queue key)
sound_lifted t queue key liftable takes below sound = record {
  once = λ k. omega (arith, lifted_often t queue key liftable sound k, sound.once k);
  awaited = λ k nowhere. sound.awaited k (sym (lifted_often t queue key liftable sound k) ∙ nowhere);
  within = within_pushed (lifted_out t.lines key) queue key (ap is_below (same_line t.lines queue key takes) ∙ below) (within_lifted_out t.lines key sound.within);
  few_taken = sound.few_taken;
  few_asks = sound.few_asks;
}

-- what was lifted stands
pub lifted_stands : (t : Tables) (queue : Queue) (key : Key) → 1 ≤ stands_often key (after_lift t queue key)
lifted_stands t queue key =
    let now : waits_often key (with_last (lifted_out t.lines key) queue key) ≡ waits_often key (lifted_out t.lines key) + 1 = often_pushed key (lifted_out t.lines key) queue key ∙ ap (λ (b : Bool). waits_often key (lifted_out t.lines key) + cond b 1 0) (same_key-self key) in
    omega arith

-- each key stands as often as before when one is taken
taken_often : (t : Tables) (w : Waits) → next_of t.lines ≡ Some w → AreSound t → (k : Key) → stands_often k (after_take t (Some w)) ≡ stands_often k t
taken_often t w next sound k = go (same_key w.key k) refl (often_cut k t.lines w.queue w.key) (often_last k w.key t.taken)
  where
    go : (b : Bool) → same_key w.key k ≡ b → waits_often k (cut_from t.lines w.queue w.key) + how_often k (line_of t.lines w.queue).keys ≡ waits_often k t.lines + cond b 0 (how_often k (line_of t.lines w.queue).keys) →
        how_often k (t.taken ++ w.key ∷ []) ≡ how_often k t.taken + cond b 1 0 → stands_often k (after_take t (Some w)) ≡ stands_often k t
    go true is cut' last =
        let there : 1 ≤ how_often k (line_of t.lines w.queue).keys = subst (λ j. 1 ≤ how_often j (line_of t.lines w.queue).keys) (same_key-true w.key k is) (there_once w.key (line_of t.lines w.queue).keys (next_there t.lines w next)) in
        let more = often_more k t.lines w.queue in
        omega (arith, sound.once k)
    go false is cut' last =
        omega arith

pub sound_taken : (t : Tables) (w : Waits) → next_of t.lines ≡ Some w → length t.taken < t.workers → AreSound t → AreSound (after_take t (Some w))
sound_taken t w next few sound = record {
  once = λ k. omega (arith, taken_often t w next sound k, sound.once k);
  awaited = λ k nowhere. sound.awaited k (sym (taken_often t w next sound k) ∙ nowhere);
  within = within_cut t.lines w.queue w.key sound.within;
  few_taken = omega (arith, length-append t.taken (w.key ∷ []));
  few_asks = sound.few_asks;
}

-- what is next is out of its queue where it is out of all
pub next_out : (t : Tables) (key : Key) → option_map (λ w. w.key) (next_of t.lines) ≡ Some key → AreSound t → record t { lines = out_of_all t.lines key; taken = t.taken ++ key ∷ [] } ≡ after_take t (next_of t.lines)
next_out t key is sound = go (next_of t.lines) refl is
  where
    go : (o : Option Waits) → next_of t.lines ≡ o → option_map (λ w. w.key) o ≡ Some key → record t { lines = out_of_all t.lines key; taken = t.taken ++ key ∷ [] } ≡ after_take t o
    go None next h = cc
    go (Some w) next h =
        let mine : w.key ≡ key = cc in
        rw (sym mine) (ap (λ ls. let u : Tables = record t { lines = ls; taken = t.taken ++ w.key ∷ [] } in u) (out_of_one t.lines w.queue w.key (omega (arith, sound.once w.key)) (next_there t.lines w next)))

pub sound_next : (t : Tables) → length t.taken < t.workers → AreSound t → AreSound (after_take t (next_of t.lines))
sound_next t few sound = go (next_of t.lines) refl
  where
    go : (o : Option Waits) → next_of t.lines ≡ o → AreSound (after_take t o)
    go None next = sound
    go (Some w) next = sound_taken t w next few sound

-- a filter and its contrary share the list out
shared_out : {X : Type 0} (q : X → Bool) (xs : List X) → length (filter (λ x. not (q x)) xs) + length (filter q xs) ≡ length xs
shared_out q [] = refl
shared_out q (x ∷ xs) = go (q x) (shared_out q xs)
  where
    go : (b : Bool) → length (filter (λ y. not (q y)) xs) + length (filter q xs) ≡ length xs → length (cond (not b) (x ∷ filter (λ y. not (q y)) xs) (filter (λ y. not (q y)) xs)) + length (cond b (x ∷ filter q xs) (filter q xs)) ≡ suc (length xs)
    go true ih = omega arith
    go false ih = omega arith

-- a filter counts no more
pub fewer : {X : Type 0} (p q : X → Bool) (xs : List X) → count_by p (filter q xs) ≤ count_by p xs
fewer p q [] = omega arith
fewer p q (x ∷ xs) = let all = count-cons p x xs in go (q x) (fewer p q xs) all (count-cons p x (filter q xs))
  where
    go : (b : Bool) → count_by p (filter q xs) ≤ count_by p xs → count_by p (x ∷ xs) ≡ cond (p x) 1 0 + count_by p xs → count_by p (x ∷ filter q xs) ≡ cond (p x) 1 0 + count_by p (filter q xs) → count_by p (cond b (x ∷ filter q xs) (filter q xs)) ≤ count_by p (x ∷ xs)
    go true ih all kept = omega arith
    go false ih all kept = omega arith

-- no ask waits for the key among those that do not
none_waits : (key : Key) (asks : List Asked) → count_by (waits_on key) (filter (λ a. not (waits_on key a)) asks) ≡ 0
none_waits key [] = refl
none_waits key (a ∷ asks) = go (waits_on key a) refl (none_waits key asks)
  where
    go : (b : Bool) → waits_on key a ≡ b → count_by (waits_on key) (filter (λ x. not (waits_on key x)) asks) ≡ 0 → count_by (waits_on key) (cond (not b) (a ∷ filter (λ x. not (waits_on key x)) asks) (filter (λ x. not (waits_on key x)) asks)) ≡ 0
    go true is ih = ih
    go false is ih = count-cons (waits_on key) a (filter (λ x. not (waits_on key x)) asks) ∙ ap₂ (λ (c : Bool) (m : ℕ). cond c 1 0 + m) is ih

pub sound_ended : (t : Tables) (key : Key) (outcome : Outcome) → AreSound t → AreSound (after_end t key outcome)
sound_ended t key outcome sound = record {
  once = λ k. once k (same_key key k) (often_without k key t.taken);
  awaited = λ k nowhere. awaited k (same_key key k) refl (often_without k key t.taken) nowhere;
  within = sound.within;
  few_taken = omega (arith, sound.few_taken, without_few key t.taken);
  few_asks =
      let parts = shared_out (waits_on key) t.asks in
      let replies = length-map (filter (waits_on key) t.asks) (reply_with outcome) in
      let both = length-append t.ended (map (reply_with outcome) (filter (waits_on key) t.asks)) in
      omega (arith, parts, replies, both, sound.few_asks);
}
  where
    once : (k : Key) (b : Bool) → how_often k (without key t.taken) ≡ cond b 0 (how_often k t.taken) → stands_often k (after_end t key outcome) ≤ 1
    once k true out = omega (arith, sound.once k)
    once k false out = omega (arith, sound.once k)

    awaited : (k : Key) (b : Bool) → same_key key k ≡ b → how_often k (without key t.taken) ≡ cond b 0 (how_often k t.taken) → stands_often k (after_end t key outcome) ≡ 0 → chain_length k (after_end t key outcome) ≡ 0
    awaited k true is out nowhere = subst (λ j. count_by (waits_on j) (filter (λ a. not (waits_on key a)) t.asks) ≡ 0) (same_key-true key k is) (none_waits key t.asks)
    awaited k false is out nowhere =
        let old = sound.awaited k (omega arith) in
        omega (arith, old, fewer (waits_on k) (λ a. not (waits_on key a)) t.asks)

-- a list without its first that passes is no longer
pub first_fewer : {X : Type 0} (q : X → Bool) (xs : List X) → length (without_first q xs) ≤ length xs
unfolding without_first
first_fewer q [] = omega arith
first_fewer q (x ∷ xs) = go (q x) (first_fewer q xs)
  where
    go : (b : Bool) → length (without_first q xs) ≤ length xs → length (cond b xs (x ∷ without_first q xs)) ≤ suc (length xs)
    go true ih = omega arith
    go false ih = omega arith

pub sound_left : (t : Tables) (conn : Conn) → AreSound t → AreSound (after_leave t conn)
sound_left t conn sound = record {
  once = sound.once;
  awaited = λ k nowhere. let old = sound.awaited k nowhere in omega (arith, old, fewer (waits_on k) (λ a. not (asked_by conn a)) t.asks);
  within = sound.within;
  few_taken = sound.few_taken;
  few_asks = omega (arith, sound.few_asks, filter_fewer (λ a. not (asked_by conn a)) t.asks, filter_fewer (λ r. not (replies_to_conn conn r)) t.ended);
}

pub sound_collected : (t : Tables) (q : Reply → Bool) → AreSound t → AreSound (record t { ended = without_first q t.ended })
sound_collected t q sound = record {
  once = sound.once;
  awaited = sound.awaited;
  within = sound.within;
  few_taken = sound.few_taken;
  few_asks = omega (arith, sound.few_asks, first_fewer q t.ended);
}
