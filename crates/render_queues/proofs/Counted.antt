-- How often a key stands, and how each step changes it.
use Rattle.std.proofs.Common.{◌≡◌, ℕ, ◌+◌, ◌≤◌, Bool, true, false, not, ◌||◌, cond, List, [], ◌∷◌, ◌++◌, Option, Some, None, refl, sym, ap, subst, ◌∙◌, arith}
use Rattle.std.specs.Prelude.{IsSome, is_some, slice_get, option_map}
use Rattle.std.proofs.lemmas.Bool.{false≢true}
use Rattle.std.specs.Option.{option_or}
use Rattle.farm_history.specs.declared.keys.Key.{Key}
use Rattle.farm_history.specs.declared.queues.Queue.{Queue}
use Rattle.farm_history.specs.Plans.{Waits, same_key, is_in}
use Rattle.farm_history.proofs.Lists.{same_key-true, same_key-self, none-each}
use Rattle.farm_history.proofs.Counts.{count-cons}
use Rattle.farm_history.proofs.Opens.{count-append, count-zero}
use Rattle.render_queues.specs.OneQueue.{Line, Lines, without, line_without}
use Rattle.render_queues.specs.declared.standing.Standing.{Standing}
use Rattle.render_queues.specs.declared.standing.Standing.TheVariants.{Waits as InLine, Taken}
use Rattle.render_queues.proofs.Keys.{without_absent, without_gone}
use Rattle.render_queues.specs.Tables.{Tables, line_of, with_line, with_last, cut_from, lifted_out, out_of_all, waits_where, next_of, standing, is_liftable, how_often, waits_often, stands_often}

pub often_last : (k key : Key) (ks : List Key) → how_often k (ks ++ key ∷ []) ≡ how_often k ks + cond (same_key key k) 1 0
often_last k key ks = count-append (λ x. same_key x k) ks (key ∷ []) ∙ ap (λ n. how_often k ks + n) (count-cons (λ x. same_key x k) key [] ∙ omega arith)

-- a key that was taken out is there no more, and the others are there as often
pub often_without : (k key : Key) (ks : List Key) → how_often k (without key ks) ≡ cond (same_key key k) 0 (how_often k ks)
often_without k key [] = none (same_key key k)
  where
    none : (b : Bool) → how_often k [] ≡ cond b 0 (how_often k [])
    none true = refl
    none false = refl
often_without k key (x ∷ xs) =
    kept (same_key x key)
    ∙ (step (same_key x key) (same_key key k) (same_key x k) (how_often k (without key xs)) (how_often k xs) (λ e. ap (λ y. same_key y k) (same_key-true x key e)) (λ e. ap (λ y. same_key x y) (same_key-true key k e)) (often_without k key xs)
    ∙ ap (λ (n : ℕ). cond (same_key key k) 0 n) (sym (count-cons (λ y. same_key y k) x xs)))
  where
    kept : (a : Bool) → how_often k (cond (not a) (x ∷ without key xs) (without key xs)) ≡ cond (not a) (cond (same_key x k) 1 0 + how_often k (without key xs)) (how_often k (without key xs))
    kept true = refl
    kept false = count-cons (λ y. same_key y k) x (without key xs)

    step : (a b c : Bool) (m n : ℕ) → (a ≡ true → c ≡ b) → (b ≡ true → a ≡ c) → m ≡ cond b 0 n → cond (not a) (cond c 1 0 + m) m ≡ cond b 0 (cond c 1 0 + n)
    step true true true m n f g h = h
    step true true false m n f g h = absurd (false≢true (f refl))
    step true false true m n f g h = absurd (false≢true (sym (f refl)))
    step true false false m n f g h = omega arith
    step false true true m n f g h = absurd (false≢true (g refl))
    step false true false m n f g h = omega arith
    step false false true m n f g h = omega arith
    step false false false m n f g h = omega arith

-- a key that is not among the keys is there never
pub never_there : (k : Key) (ks : List Key) → is_in k ks ≡ false → how_often k ks ≡ 0
never_there k ks absent = count-zero (λ x. same_key x k) ks (none-each (λ x. same_key x k) ks absent)

-- and one that is among them is there once at least
pub there_once : (k : Key) (ks : List Key) → is_in k ks ≡ true → 1 ≤ how_often k ks
there_once k [] h = absurd (false≢true h)
there_once k (x ∷ xs) h = let next = count-cons (λ y. same_key y k) x xs in go (same_key x k) h next (there_once k xs)
  where
    go : (b : Bool) → b || is_in k xs ≡ true → how_often k (x ∷ xs) ≡ cond b 1 0 + how_often k xs → (is_in k xs ≡ true → 1 ≤ how_often k xs) → 1 ≤ how_often k (x ∷ xs)
    go true h next rest = omega arith
    go false h next rest = let more = rest h in omega arith

-- the first of a list is in it
pub first_there : (k : Key) (ks : List Key) → slice_get ks 0 ≡ Some k → is_in k ks ≡ true
first_there k [] e = cc
first_there k (x ∷ xs) e = let same : x ≡ k = cc in rw same (let own = same_key-self k in grind arith)

-- a key in its queue
abbrev in_line : Queue → Key → Waits
in_line queue key = record { queue = queue; key = key }

-- another line in place of a queue's
pub often_with : (k : Key) (ls : Lines) (queue : Queue) (l : Line) → waits_often k (with_line ls queue l) + how_often k (line_of ls queue).keys ≡ waits_often k ls + how_often k l.keys
often_with k ls Queue.Prio l = omega arith
often_with k ls Queue.Request l = omega arith
often_with k ls Queue.Low l = omega arith
often_with k ls Queue.Dirty l = omega arith
often_with k ls Queue.Bulk l = omega arith

-- a key waits in all queues together as often as in one, at least
pub often_more : (k : Key) (ls : Lines) (queue : Queue) → how_often k (line_of ls queue).keys ≤ waits_often k ls
often_more k ls Queue.Prio = omega arith
often_more k ls Queue.Request = omega arith
often_more k ls Queue.Low = omega arith
often_more k ls Queue.Dirty = omega arith
often_more k ls Queue.Bulk = omega arith

pub often_pushed : (k : Key) (ls : Lines) (queue : Queue) (key : Key) → waits_often k (with_last ls queue key) ≡ waits_often k ls + cond (same_key key k) 1 0
often_pushed k ls queue key =
    let line : Line = record (line_of ls queue) { keys = (line_of ls queue).keys ++ key ∷ [] } in
    omega (arith, often_with k ls queue line, often_last k key (line_of ls queue).keys)

pub often_cut : (k : Key) (ls : Lines) (queue : Queue) (key : Key) → waits_often k (cut_from ls queue key) + how_often k (line_of ls queue).keys ≡ waits_often k ls + cond (same_key key k) 0 (how_often k (line_of ls queue).keys)
often_cut k ls queue key = omega (arith, often_with k ls queue (line_without (line_of ls queue) key), often_without k key (line_of ls queue).keys)

-- where something is, it is not none
some_none : (s : Standing) → Some s ≡ None → ⊥
some_none s h = false≢true (sym (ap is_some h))

-- the first of six that holds
abbrev found_at : Bool → Bool → Bool → Bool → Bool → Bool → Option Standing
found_at a b c d e f = cond a (Some Taken) (cond b (Some (InLine Queue.Prio)) (cond c (Some (InLine Queue.Request)) (cond d (Some (InLine Queue.Low)) (cond e (Some (InLine Queue.Dirty)) (cond f (Some (InLine Queue.Bulk)) None)))))

-- a key that stands nowhere
pub stands_never : (t : Tables) (k : Key) → standing t k ≡ None → stands_often k t ≡ 0
stands_never t k none =
    let ls = t.lines in
    let all = nowhere (is_in k t.taken) (is_in k ls.prio.keys) (is_in k ls.request.keys) (is_in k ls.low.keys) (is_in k ls.dirty.keys) (is_in k ls.bulk.keys) none in
    omega (arith, never_there k t.taken all.0, never_there k ls.prio.keys all.1, never_there k ls.request.keys all.2, never_there k ls.low.keys all.3, never_there k ls.dirty.keys all.4, never_there k ls.bulk.keys all.5)
  where
    nowhere : (a b c d e f : Bool) → found_at a b c d e f ≡ None → (a ≡ false) × (b ≡ false) × (c ≡ false) × (d ≡ false) × (e ≡ false) × (f ≡ false)
    nowhere true b c d e f h = absurd (some_none _ h)
    nowhere false true c d e f h = absurd (some_none _ h)
    nowhere false false true d e f h = absurd (some_none _ h)
    nowhere false false false true e f h = absurd (some_none _ h)
    nowhere false false false false true f h = absurd (some_none _ h)
    nowhere false false false false false true h = absurd (some_none _ h)
    nowhere false false false false false false h = (refl, refl, refl, refl, refl, refl)

-- and one that stands somewhere
pub stands_somewhere : (t : Tables) (k : Key) → IsSome (standing t k) → 1 ≤ stands_often k t
stands_somewhere t k some =
    go (is_in k t.taken) refl (is_in k t.lines.prio.keys) refl (is_in k t.lines.request.keys) refl (is_in k t.lines.low.keys) refl (is_in k t.lines.dirty.keys) refl (is_in k t.lines.bulk.keys) refl some
  where
    go : (a : Bool) → is_in k t.taken ≡ a → (b : Bool) → is_in k t.lines.prio.keys ≡ b → (c : Bool) → is_in k t.lines.request.keys ≡ c → (d : Bool) → is_in k t.lines.low.keys ≡ d →
        (e : Bool) → is_in k t.lines.dirty.keys ≡ e → (f : Bool) → is_in k t.lines.bulk.keys ≡ f → IsSome (found_at a b c d e f) → 1 ≤ stands_often k t
    go true h b i c j d l e m f n s = let there = there_once k t.taken h in omega arith
    go false h true i c j d l e m f n s = let there = there_once k t.lines.prio.keys i in omega arith
    go false h false i true j d l e m f n s = let there = there_once k t.lines.request.keys j in omega arith
    go false h false i false j true l e m f n s = let there = there_once k t.lines.low.keys l in omega arith
    go false h false i false j false l true m f n s = let there = there_once k t.lines.dirty.keys m in omega arith
    go false h false i false j false l false m true n s = let there = there_once k t.lines.bulk.keys n in omega arith
    go false h false i false j false l false m false n s = absurd (false≢true s)

-- what can be lifted waits in the dirty or the bulk queue
pub liftable_waits : (t : Tables) (k : Key) → is_liftable (standing t k) ≡ true → 1 ≤ how_often k t.lines.dirty.keys + how_often k t.lines.bulk.keys
liftable_waits t k h = go (is_in k t.taken) (is_in k t.lines.prio.keys) (is_in k t.lines.request.keys) (is_in k t.lines.low.keys) (is_in k t.lines.dirty.keys) refl (is_in k t.lines.bulk.keys) refl h
  where
    go : (a b c d e : Bool) → is_in k t.lines.dirty.keys ≡ e → (f : Bool) → is_in k t.lines.bulk.keys ≡ f → is_liftable (found_at a b c d e f) ≡ true → 1 ≤ how_often k t.lines.dirty.keys + how_often k t.lines.bulk.keys
    go true b c d e i f j h = absurd (false≢true h)
    go false true c d e i f j h = absurd (false≢true h)
    go false false true d e i f j h = absurd (false≢true h)
    go false false false true e i f j h = absurd (false≢true h)
    go false false false false true i f j h = let once = there_once k t.lines.dirty.keys i in omega arith
    go false false false false false i true j h = let once = there_once k t.lines.bulk.keys j in omega arith
    go false false false false false i false j h = absurd (false≢true h)

-- where a list and another hold a key once together, it is in one of them alone
not_both : (k : Key) (own other : List Key) → how_often k own + how_often k other ≤ 1 → is_in k own ≡ true → is_in k other ≡ false
not_both k own other once there = go (is_in k other) refl
  where
    go : (b : Bool) → is_in k other ≡ b → is_in k other ≡ false
    go true is = let a = there_once k own there in let b = there_once k other is in absurd (omega arith)
    go false is = is

-- a key that waits once is out of all queues where it is out of its own
pub out_of_one : (ls : Lines) (queue : Queue) (key : Key) → waits_often key ls ≤ 1 → is_in key (line_of ls queue).keys ≡ true → out_of_all ls key ≡ cut_from ls queue key
out_of_one ls queue key once there = go queue there
  where
    off : (own other : List Key) → how_often key own + how_often key other ≤ waits_often key ls → is_in key own ≡ true → without key other ≡ other
    off own other few is = without_absent key other (not_both key own other (omega (arith, once)) is)

    go : (q : Queue) → is_in key (line_of ls q).keys ≡ true → out_of_all ls key ≡ cut_from ls q key
    go Queue.Prio h = rw (off ls.prio.keys ls.request.keys (omega arith) h, off ls.prio.keys ls.low.keys (omega arith) h, off ls.prio.keys ls.dirty.keys (omega arith) h, off ls.prio.keys ls.bulk.keys (omega arith) h) refl
    go Queue.Request h = rw (off ls.request.keys ls.prio.keys (omega arith) h, off ls.request.keys ls.low.keys (omega arith) h, off ls.request.keys ls.dirty.keys (omega arith) h, off ls.request.keys ls.bulk.keys (omega arith) h) refl
    go Queue.Low h = rw (off ls.low.keys ls.prio.keys (omega arith) h, off ls.low.keys ls.request.keys (omega arith) h, off ls.low.keys ls.dirty.keys (omega arith) h, off ls.low.keys ls.bulk.keys (omega arith) h) refl
    go Queue.Dirty h = rw (off ls.dirty.keys ls.prio.keys (omega arith) h, off ls.dirty.keys ls.request.keys (omega arith) h, off ls.dirty.keys ls.low.keys (omega arith) h, off ls.dirty.keys ls.bulk.keys (omega arith) h) refl
    go Queue.Bulk h = rw (off ls.bulk.keys ls.prio.keys (omega arith) h, off ls.bulk.keys ls.request.keys (omega arith) h, off ls.bulk.keys ls.low.keys (omega arith) h, off ls.bulk.keys ls.dirty.keys (omega arith) h) refl

-- one that can be lifted is out of all where it is out of the dirty and bulk queues
pub out_lifted : (t : Tables) (key : Key) → is_liftable (standing t key) ≡ true → out_of_all t.lines key ≡ lifted_out t.lines key
out_lifted t key liftable =
    let ls = t.lines in
    let off = not_higher (is_in key t.taken) (is_in key ls.prio.keys) (is_in key ls.request.keys) (is_in key ls.low.keys) (is_in key ls.dirty.keys) (is_in key ls.bulk.keys) liftable in
    rw (without_absent key ls.prio.keys off.0, without_absent key ls.request.keys off.1, without_absent key ls.low.keys off.2) refl
  where
    not_higher : (a b c d e f : Bool) → is_liftable (found_at a b c d e f) ≡ true → (b ≡ false) × (c ≡ false) × (d ≡ false)
    not_higher true b c d e f h = absurd (false≢true h)
    not_higher false true c d e f h = absurd (false≢true h)
    not_higher false false true d e f h = absurd (false≢true h)
    not_higher false false false true e f h = absurd (false≢true h)
    not_higher false false false false e f h = (refl, refl, refl)

-- one that is out of all queues waits nowhere
pub out_nowhere : (ls : Lines) (key : Key) → waits_where (out_of_all ls key) key ≡ None
out_nowhere ls key = rw (without_gone key ls.prio.keys, without_gone key ls.request.keys, without_gone key ls.low.keys, without_gone key ls.dirty.keys, without_gone key ls.bulk.keys) refl

-- what is taken next stands in its queue
pub next_there : (ls : Lines) (w : Waits) → next_of ls ≡ Some w → is_in w.key (line_of ls w.queue).keys ≡ true
next_there ls w e =
    later Queue.Prio (slice_get ls.prio.keys 0) _ refl
    (later Queue.Request (slice_get ls.request.keys 0) _ refl
    (later Queue.Low (slice_get ls.low.keys 0) _ refl
    (later Queue.Dirty (slice_get ls.dirty.keys 0) _ refl (here Queue.Bulk (slice_get ls.bulk.keys 0) refl)))) e
  where
    here : (queue : Queue) (o : Option Key) → slice_get (line_of ls queue).keys 0 ≡ o → option_map (in_line queue) o ≡ Some w → is_in w.key (line_of ls w.queue).keys ≡ true
    here queue None is e = cc
    here queue (Some key) is e = let same : in_line queue key ≡ w = cc in subst (λ (v : Waits). is_in v.key (line_of ls v.queue).keys ≡ true) same (first_there key (line_of ls queue).keys is)

    later : (queue : Queue) (o : Option Key) (rest : Option Waits) → slice_get (line_of ls queue).keys 0 ≡ o → (rest ≡ Some w → is_in w.key (line_of ls w.queue).keys ≡ true) →
        option_or (option_map (in_line queue) o) rest ≡ Some w → is_in w.key (line_of ls w.queue).keys ≡ true
    later queue None rest is more e = more e
    later queue (Some key) rest is more e =
        let same : in_line queue key ≡ w = cc in subst (λ (v : Waits). is_in v.key (line_of ls v.queue).keys ≡ true) same (first_there key (line_of ls queue).keys is)
