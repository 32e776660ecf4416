-- The one list of all that waits, seen by queue.
use Rattle.std.proofs.Common.{suc, zero, take, ◌≡◌, ℕ, ◌+◌, ◌<◌, ◌≤◌, Bool, true, false, not, ◌||◌, cond, List, [], ◌∷◌, ◌++◌, length, map, filter, slice_get, Option, Some, None, refl, sym, ap, ap₂, subst, ◌∙◌, arith, append-nil}
use Rattle.std.specs.Prelude.{nat_lt, position, is_some, option_map}
use Rattle.std.specs.List.{IsDistinct, AllByRecursion, position_or_len}
use Rattle.std.specs.Map.{keys_of, values_of, lookup}
use Rattle.std.proofs.lemmas.List.{length-append}
use Rattle.std.proofs.lemmas.Bool.{false≢true, ltb-true}
use Rattle.indexmap.specs.IndexMap.{insert_entry, set_value_at}
use Rattle.farm_history.specs.declared.keys.Key.{Key}
use Rattle.farm_history.specs.declared.queues.Limits.{Limits}
use Rattle.farm_history.specs.declared.queues.Queue.{Queue}
use Rattle.farm_history.specs.Plans.{same_key, same_queue, is_in, limit_of}
use Rattle.farm_history.proofs.Lists.{same_key-true, same_key-sym, filter-append}
use Rattle.render_queues.specs.OneQueue.{Line, Lines, is_below, without}
use Rattle.render_queues.specs.Tables.{line_of, out_of_all, waits_where, with_last}
use Rattle.render_queues.specs.declared.standing.Standing.{Standing}
use Rattle.render_queues.specs.declared.standing.Standing.TheVariants.{Waits as InLine}
use Rattle.render_queues.specs.inner.Entries.{Entry, is_there, keys_in, lines_in, room_of, still_there, with_limit}
use Rattle.render_queues.proofs.History.{same_queue-true}
use Rattle.render_queues.proofs.Keys.{without_absent}

abbrev heads : List Entry → List Key
heads es = map (λ (e : Entry). e.0) es

abbrev of_queue : Queue → List Entry → List Entry
of_queue queue es = filter (λ (e : Entry). is_there e.1 queue) es

same_queue-self : (q : Queue) → same_queue q q ≡ true
same_queue-self Queue.Prio = refl
same_queue-self Queue.Request = refl
same_queue-self Queue.Low = refl
same_queue-self Queue.Dirty = refl
same_queue-self Queue.Bulk = refl

pub line_in : (limits : Limits) (es : List Entry) (queue : Queue) → line_of (lines_in limits es) queue ≡ record { keys = keys_in queue es; limit = limit_of limits queue }
line_in limits es Queue.Prio = refl
line_in limits es Queue.Request = refl
line_in limits es Queue.Low = refl
line_in limits es Queue.Dirty = refl
line_in limits es Queue.Bulk = refl

-- ---- where a key waits

-- what stands beside a key, if it is in the table
abbrev pub joined : Option (Option Queue) → Option Queue
joined None = None
joined (Some own) = own

-- a key that others are not is in no queue of theirs
apart : (key x : Key) (es : List Entry) → AllByRecursion (λ k. same_key x k ≡ false) (keys_of es) → same_key key x ≡ true → (queue : Queue) → is_in key (keys_in queue es) ≡ false
apart key x [] all is queue = refl
apart key x (e ∷ es) all is queue = go (is_there e.1 queue) (apart key x es all.1 is queue)
  where
    other : same_key e.0 key ≡ false
    other = same_key-sym e.0 key ∙ subst (λ k. same_key k e.0 ≡ false) (sym (same_key-true key x is)) all.0

    go : (b : Bool) → is_in key (keys_in queue es) ≡ false → is_in key (heads (cond b (e ∷ of_queue queue es) (of_queue queue es))) ≡ false
    go true ih = ap₂ (λ a b. a || b) other ih
    go false ih = ih

-- a key is among those of a queue where the table has it with that queue
pub in_queue_there : (key : Key) (es : List Entry) → IsDistinct same_key (keys_of es) → (queue : Queue) → is_in key (keys_in queue es) ≡ is_there (joined (lookup (same_key key) es)) queue
unfolding IsDistinct
in_queue_there key [] distinct queue = refl
in_queue_there key (e ∷ es) distinct queue = go (same_key key e.0) refl (is_there e.1 queue) refl (in_queue_there key es distinct.1 queue)
  where
    go : (a : Bool) → same_key key e.0 ≡ a → (b : Bool) → is_there e.1 queue ≡ b → is_in key (keys_in queue es) ≡ is_there (joined (lookup (same_key key) es)) queue →
        is_in key (heads (cond b (e ∷ of_queue queue es) (of_queue queue es))) ≡ is_there (joined (cond a (Some e.1) (lookup (same_key key) es))) queue
    go true is true own ih = ap (λ c. c || is_in key (keys_in queue es)) (same_key-sym e.0 key ∙ is) ∙ sym own
    go true is false own ih = apart key e.0 es distinct.0 is queue ∙ sym own
    go false is true own ih = ap (λ c. c || is_in key (keys_in queue es)) (same_key-sym e.0 key ∙ is) ∙ ih
    go false is false own ih = ih

-- where a key waits is what stands beside it
pub where_is : (limits : Limits) (key : Key) (es : List Entry) → IsDistinct same_key (keys_of es) → waits_where (lines_in limits es) key ≡ option_map InLine (joined (lookup (same_key key) es))
where_is limits key es distinct = rw (in_queue_there key es distinct Queue.Prio, in_queue_there key es distinct Queue.Request, in_queue_there key es distinct Queue.Low, in_queue_there key es distinct Queue.Dirty, in_queue_there key es distinct Queue.Bulk) (go (joined (lookup (same_key key) es)))
  where
    go : (o : Option Queue) → cond (is_there o Queue.Prio) (Some (InLine Queue.Prio)) (cond (is_there o Queue.Request) (Some (InLine Queue.Request)) (cond (is_there o Queue.Low) (Some (InLine Queue.Low)) (cond (is_there o Queue.Dirty) (Some (InLine Queue.Dirty)) (cond (is_there o Queue.Bulk) (Some (InLine Queue.Bulk)) None)))) ≡ option_map InLine o
    go None = refl
    go (Some Queue.Prio) = refl
    go (Some Queue.Request) = refl
    go (Some Queue.Low) = refl
    go (Some Queue.Dirty) = refl
    go (Some Queue.Bulk) = refl

-- a key that waits nowhere is in no queue
pub in_no_queue : (ls : Lines) (key : Key) → waits_where ls key ≡ None → (queue : Queue) → is_in key (line_of ls queue).keys ≡ false
in_no_queue ls key none = go (is_in key ls.prio.keys) refl (is_in key ls.request.keys) refl (is_in key ls.low.keys) refl (is_in key ls.dirty.keys) refl (is_in key ls.bulk.keys) refl none
  where
    never : (s : Standing) → Some s ≡ None → ⊥
    never s h = false≢true (sym (ap is_some h))

    go : (a : Bool) → is_in key ls.prio.keys ≡ a → (b : Bool) → is_in key ls.request.keys ≡ b → (c : Bool) → is_in key ls.low.keys ≡ c → (d : Bool) → is_in key ls.dirty.keys ≡ d → (e : Bool) → is_in key ls.bulk.keys ≡ e →
        cond a (Some (InLine Queue.Prio)) (cond b (Some (InLine Queue.Request)) (cond c (Some (InLine Queue.Low)) (cond d (Some (InLine Queue.Dirty)) (cond e (Some (InLine Queue.Bulk)) None)))) ≡ None → (queue : Queue) → is_in key (line_of ls queue).keys ≡ false
    go true p b q c r d s e t h = absurd (never _ h)
    go false p true q c r d s e t h = absurd (never _ h)
    go false p false q true r d s e t h = absurd (never _ h)
    go false p false q false r true s e t h = absurd (never _ h)
    go false p false q false r false s true t h = absurd (never _ h)
    go false p false q false r false s false t h = each
      where
        each : (queue : Queue) → is_in key (line_of ls queue).keys ≡ false
        each Queue.Prio = p
        each Queue.Request = q
        each Queue.Low = r
        each Queue.Dirty = s
        each Queue.Bulk = t

-- what is not in a queue is not in the rest of it
in_rest : (key : Key) (e : Entry) (es : List Entry) (queue : Queue) → is_in key (keys_in queue (e ∷ es)) ≡ false → is_in key (keys_in queue es) ≡ false
in_rest key e es queue out = go (is_there e.1 queue) out
  where
    rest : (a b : Bool) → a || b ≡ false → b ≡ false
    rest true b h = absurd (false≢true (sym h))
    rest false b h = h

    go : (b : Bool) → is_in key (heads (cond b (e ∷ of_queue queue es) (of_queue queue es))) ≡ false → is_in key (keys_in queue es) ≡ false
    go true h = rest (same_key e.0 key) (is_in key (keys_in queue es)) h
    go false h = h

-- a key that is in no queue is not among those that still wait
pub none_there : (key : Key) (es : List Entry) → ((queue : Queue) → is_in key (keys_in queue es) ≡ false) → lookup (same_key key) (still_there es) ≡ None
none_there key [] out = refl
none_there key ((k, None) ∷ es) out = none_there key es (λ q. in_rest key (k, None) es q (out q))
none_there key ((k, Some own) ∷ es) out =
    ap (λ b. cond b (Some (Some own)) (lookup (same_key key) (still_there es))) (same_key-sym key k ∙ here (same_key k key) both)
    ∙ none_there key es (λ q. in_rest key (k, Some own) es q (out q))
  where
    both : same_key k key || is_in key (keys_in own es) ≡ false
    both = subst (λ b. is_in key (heads (cond b ((k, Some own) ∷ of_queue own es) (of_queue own es))) ≡ false) (same_queue-self own) (out own)

    here : (a : Bool) → a || is_in key (keys_in own es) ≡ false → a ≡ false
    here true h = absurd (false≢true (sym h))
    here false h = refl

-- ---- one that comes last

last_in : (es : List Entry) (key : Key) (own queue : Queue) → keys_in queue (es ++ (key, Some own) ∷ []) ≡ keys_in queue es ++ cond (same_queue own queue) (key ∷ []) []
last_in [] key own queue = go (same_queue own queue)
  where
    go : (b : Bool) → heads (cond b ((key, Some own) ∷ []) []) ≡ cond b (key ∷ []) []
    go true = refl
    go false = refl
last_in (e ∷ es) key own queue = go (is_there e.1 queue) (last_in es key own queue)
  where
    go : (b : Bool) → keys_in queue (es ++ (key, Some own) ∷ []) ≡ keys_in queue es ++ cond (same_queue own queue) (key ∷ []) [] →
        heads (cond b (e ∷ of_queue queue (es ++ (key, Some own) ∷ [])) (of_queue queue (es ++ (key, Some own) ∷ []))) ≡ heads (cond b (e ∷ of_queue queue es) (of_queue queue es)) ++ cond (same_queue own queue) (key ∷ []) []
    go true ih = ap (λ ks. e.0 ∷ ks) ih
    go false ih = ih

same_lines : (a b : Lines) → ((queue : Queue) → line_of a queue ≡ line_of b queue) → a ≡ b
same_lines a b same = λ i. record { prio = same Queue.Prio i; request = same Queue.Request i; low = same Queue.Low i; dirty = same Queue.Dirty i; bulk = same Queue.Bulk i }

line_last : (ls : Lines) (own queue : Queue) (key : Key) → line_of (with_last ls own key) queue ≡ record (line_of ls queue) { keys = (line_of ls queue).keys ++ cond (same_queue own queue) (key ∷ []) [] }
line_last ls Queue.Prio Queue.Prio key = refl
line_last ls Queue.Request Queue.Request key = refl
line_last ls Queue.Low Queue.Low key = refl
line_last ls Queue.Dirty Queue.Dirty key = refl
line_last ls Queue.Bulk Queue.Bulk key = refl
line_last ls own queue key = ap (λ ks. let l : Line = record { keys = ks; limit = (line_of ls queue).limit } in l) (sym (append-nil (line_of ls queue).keys))

-- one that comes last in a table with the same queues comes last in its queue
pub lines_last : (limits : Limits) (es fs : List Entry) (key : Key) (own : Queue) → ((queue : Queue) → keys_in queue fs ≡ keys_in queue es) → lines_in limits (fs ++ (key, Some own) ∷ []) ≡ with_last (lines_in limits es) own key
lines_last limits es fs key own same = same_lines _ _ (λ q.
    line_in limits (fs ++ (key, Some own) ∷ []) q
    ∙ (ap (λ ks. let l : Line = record { keys = ks; limit = limit_of limits q } in l) (last_in fs key own q ∙ ap (λ ks. ks ++ cond (same_queue own q) (key ∷ []) []) (same q))
    ∙ sym (line_last (lines_in limits es) own q key ∙ ap (λ (l : Line). let m : Line = record { keys = l.keys ++ cond (same_queue own q) (key ∷ []) []; limit = l.limit } in m) (line_in limits es q))))

-- ---- how many

-- each key that waits is in one queue
total : (es : List Entry) → length (still_there es) ≡ length (keys_in Queue.Prio es) + length (keys_in Queue.Request es) + length (keys_in Queue.Low es) + length (keys_in Queue.Dirty es) + length (keys_in Queue.Bulk es)
total [] = refl
total ((k, None) ∷ es) = total es
total ((k, Some Queue.Prio) ∷ es) = let ih = total es in omega arith
total ((k, Some Queue.Request) ∷ es) = let ih = total es in omega arith
total ((k, Some Queue.Low) ∷ es) = let ih = total es in omega arith
total ((k, Some Queue.Dirty) ∷ es) = let ih = total es in omega arith
total ((k, Some Queue.Bulk) ∷ es) = let ih = total es in omega arith

abbrev pub Counted : Limits → Limits → List Entry → Type 0
Counted limits left es = (queue : Queue) → length (keys_in queue es) + limit_of left queue ≡ limit_of limits queue

-- there is room for one more, where one more may wait in a queue
pub one_fits : (limits left : Limits) (es : List Entry) (queue : Queue) → Counted limits left es → 1 ≤ limit_of left queue → length (still_there es) < room_of limits
one_fits limits left es Queue.Prio counted one = let all = total es in omega (arith, counted Queue.Prio, counted Queue.Request, counted Queue.Low, counted Queue.Dirty, counted Queue.Bulk)
one_fits limits left es Queue.Request counted one = let all = total es in omega (arith, counted Queue.Prio, counted Queue.Request, counted Queue.Low, counted Queue.Dirty, counted Queue.Bulk)
one_fits limits left es Queue.Low counted one = let all = total es in omega (arith, counted Queue.Prio, counted Queue.Request, counted Queue.Low, counted Queue.Dirty, counted Queue.Bulk)
one_fits limits left es Queue.Dirty counted one = let all = total es in omega (arith, counted Queue.Prio, counted Queue.Request, counted Queue.Low, counted Queue.Dirty, counted Queue.Bulk)
one_fits limits left es Queue.Bulk counted one = let all = total es in omega (arith, counted Queue.Prio, counted Queue.Request, counted Queue.Low, counted Queue.Dirty, counted Queue.Bulk)

-- a queue that is below its limit has one left
pub one_left : (limits left : Limits) (es : List Entry) (queue : Queue) → Counted limits left es → is_below (line_of (lines_in limits es) queue) ≡ true → 1 ≤ limit_of left queue
one_left limits left es queue counted below =
    let fewer = ltb-true (length (keys_in queue es)) (limit_of limits queue) (ap is_below (sym (line_in limits es queue)) ∙ below) in
    omega (arith, counted queue)

limit_with : (limits : Limits) (own queue : Queue) (n : ℕ) → limit_of (with_limit limits own n) queue ≡ cond (same_queue own queue) n (limit_of limits queue)
limit_with limits Queue.Prio Queue.Prio n = refl
limit_with limits Queue.Request Queue.Request n = refl
limit_with limits Queue.Low Queue.Low n = refl
limit_with limits Queue.Dirty Queue.Dirty n = refl
limit_with limits Queue.Bulk Queue.Bulk n = refl
limit_with limits own queue n = refl

-- counted, with one more
pub counted_last : (limits left : Limits) (es fs : List Entry) (key : Key) (own : Queue) (n : ℕ) → ((queue : Queue) → keys_in queue fs ≡ keys_in queue es) → Counted limits left es → n + 1 ≡ limit_of left own → Counted limits (with_limit left own n) (fs ++ (key, Some own) ∷ [])
counted_last limits left es fs key own n same counted is queue =
    go (same_queue own queue) refl (ap length (last_in fs key own queue) ∙ length-append (keys_in queue fs) (cond (same_queue own queue) (key ∷ []) [])) (limit_with left own queue n)
  where
    go : (b : Bool) → same_queue own queue ≡ b → length (keys_in queue (fs ++ (key, Some own) ∷ [])) ≡ length (keys_in queue fs) + length (cond b (key ∷ []) []) → limit_of (with_limit left own n) queue ≡ cond b n (limit_of left queue) →
        length (keys_in queue (fs ++ (key, Some own) ∷ [])) + limit_of (with_limit left own n) queue ≡ limit_of limits queue
    go true mine long now =
        let here : n + 1 ≡ limit_of left queue = subst (λ q. n + 1 ≡ limit_of left q) (same_queue-true own queue mine) is in
        omega (arith, counted queue, ap length (same queue))
    go false other long now = omega (arith, counted queue, ap length (same queue))

-- ---- one that leaves

-- a key with nothing beside it is out of each queue
set_out : (key : Key) (es : List Entry) → IsDistinct same_key (keys_of es) → (queue : Queue) → keys_in queue (set_value_at es (position_or_len (same_key key) (keys_of es)) None) ≡ without key (keys_in queue es)
unfolding IsDistinct
set_out key [] distinct queue = refl
set_out key (e ∷ es) distinct queue = go (same_key key e.0) refl (set_out key es distinct.1 queue)
  where
    place : ℕ
    place = position_or_len (same_key key) (keys_of es)

    drops : (b : Bool) → same_key e.0 key ≡ true → without key (heads (cond b (e ∷ of_queue queue es) (of_queue queue es))) ≡ without key (keys_in queue es)
    drops true is = ap (λ c. cond (not c) (e.0 ∷ without key (keys_in queue es)) (without key (keys_in queue es))) is
    drops false is = refl

    stays : (b : Bool) → same_key e.0 key ≡ false → keys_in queue (set_value_at es place None) ≡ without key (keys_in queue es) →
        heads (cond b (e ∷ of_queue queue (set_value_at es place None)) (of_queue queue (set_value_at es place None))) ≡ without key (heads (cond b (e ∷ of_queue queue es) (of_queue queue es)))
    stays true is ih = ap (λ ks. e.0 ∷ ks) ih ∙ sym (ap (λ c. cond (not c) (e.0 ∷ without key (keys_in queue es)) (without key (keys_in queue es))) is)
    stays false is ih = ih

    go : (a : Bool) → same_key key e.0 ≡ a → keys_in queue (set_value_at es place None) ≡ without key (keys_in queue es) → keys_in queue (set_value_at (e ∷ es) (cond (not a) (1 + place) 0) None) ≡ without key (keys_in queue (e ∷ es))
    go true is ih = sym (drops (is_there e.1 queue) (same_key-sym e.0 key ∙ is) ∙ without_absent key (keys_in queue es) (apart key e.0 es distinct.0 is queue))
    go false is ih = let next : suc place ≡ 1 + place = omega arith in subst (λ n. keys_in queue (set_value_at (e ∷ es) n None) ≡ without key (keys_in queue (e ∷ es))) next (stays (is_there e.1 queue) (same_key-sym e.0 key ∙ is) ih)

pub set_none : (key : Key) (es : List Entry) (place : ℕ) → IsDistinct same_key (keys_of es) → position (same_key key) (keys_of es) ≡ Some place → (queue : Queue) → keys_in queue (set_value_at es place None) ≡ without key (keys_in queue es)
set_none key es place distinct at queue = ap (λ n. keys_in queue (set_value_at es n None)) (sym (found (nat_lt (position_or_len (same_key key) (keys_of es)) (length (keys_of es))) at)) ∙ set_out key es distinct queue
  where
    found : (b : Bool) → cond b (Some (position_or_len (same_key key) (keys_of es))) None ≡ Some place → position_or_len (same_key key) (keys_of es) ≡ place
    found true h = cc
    found false h = absurd (false≢true (ap is_some h))

-- a key with nothing beside it, or that is not in the table, is in no queue
pub nothing_out : (key : Key) (es : List Entry) → IsDistinct same_key (keys_of es) → joined (lookup (same_key key) es) ≡ None → (queue : Queue) → keys_in queue es ≡ without key (keys_in queue es)
nothing_out key es distinct none queue = sym (without_absent key (keys_in queue es) (in_queue_there key es distinct queue ∙ ap (λ o. is_there o queue) none))

-- where a key is out of each queue, it is out of all
pub lines_out : (limits : Limits) (es fs : List Entry) (key : Key) → ((queue : Queue) → keys_in queue fs ≡ without key (keys_in queue es)) → lines_in limits fs ≡ out_of_all (lines_in limits es) key
lines_out limits es fs key out = λ i. record {
  prio = record { keys = out Queue.Prio i; limit = limits.prio };
  request = record { keys = out Queue.Request i; limit = limits.request };
  low = record { keys = out Queue.Low i; limit = limits.low };
  dirty = record { keys = out Queue.Dirty i; limit = limits.dirty };
  bulk = record { keys = out Queue.Bulk i; limit = limits.bulk };
}

-- one less in its queue
one_less : (es : List Entry) (place : ℕ) (own queue : Queue) → slice_get (values_of es) place ≡ Some (Some own) → length (keys_in queue (set_value_at es place None)) + cond (same_queue own queue) 1 0 ≡ length (keys_in queue es)
one_less [] place own queue at = let n : None ≡ Some (Some own) = at in cc
one_less (e ∷ es) zero own queue at =
    let mine : e.1 ≡ Some own = cc in
    rw mine (go (same_queue own queue))
  where
    go : (b : Bool) → length (keys_in queue es) + cond b 1 0 ≡ length (heads (cond b ((e.0, Some own) ∷ of_queue queue es) (of_queue queue es)))
    go true = omega arith
    go false = omega arith
one_less (e ∷ es) (suc place) own queue at = go (is_there e.1 queue) (one_less es place own queue at)
  where
    go : (b : Bool) → length (keys_in queue (set_value_at es place None)) + cond (same_queue own queue) 1 0 ≡ length (keys_in queue es) →
        length (heads (cond b (e ∷ of_queue queue (set_value_at es place None)) (of_queue queue (set_value_at es place None)))) + cond (same_queue own queue) 1 0 ≡ length (heads (cond b (e ∷ of_queue queue es) (of_queue queue es)))
    go true ih = omega arith
    go false ih = ih

-- counted, with one less
pub counted_less : (limits left : Limits) (es : List Entry) (place : ℕ) (own : Queue) → slice_get (values_of es) place ≡ Some (Some own) → Counted limits left es → Counted limits (with_limit left own (limit_of left own + 1)) (set_value_at es place None)
counted_less limits left es place own at counted queue = go (same_queue own queue) refl (one_less es place own queue at) (limit_with left own queue (limit_of left own + 1))
  where
    go : (b : Bool) → same_queue own queue ≡ b → length (keys_in queue (set_value_at es place None)) + cond b 1 0 ≡ length (keys_in queue es) → limit_of (with_limit left own (limit_of left own + 1)) queue ≡ cond b (limit_of left own + 1) (limit_of left queue) →
        length (keys_in queue (set_value_at es place None)) + limit_of (with_limit left own (limit_of left own + 1)) queue ≡ limit_of limits queue
    go true mine fewer now =
        let here : limit_of left own ≡ limit_of left queue = ap (λ q. limit_of left q) (same_queue-true own queue mine) in
        omega (arith, counted queue)
    go false other fewer now = omega (arith, counted queue)

-- as there is one, fewer are left than may wait
pub left_less : (limits left : Limits) (es : List Entry) (place : ℕ) (own : Queue) → slice_get (values_of es) place ≡ Some (Some own) → Counted limits left es → limit_of left own + 1 ≤ limit_of limits own
left_less limits left es place own at counted =
    let one : length (keys_in own (set_value_at es place None)) + 1 ≡ length (keys_in own es) = subst (λ b. length (keys_in own (set_value_at es place None)) + cond b 1 0 ≡ length (keys_in own es)) (same_queue-self own) (one_less es place own own at) in
    omega (arith, counted own)

-- ---- moved to the second table

-- the queues are those of the entries whose key waits
pub still_in : (queue : Queue) (es : List Entry) → keys_in queue (still_there es) ≡ keys_in queue es
still_in queue [] = refl
still_in queue ((k, None) ∷ es) = still_in queue es
still_in queue ((k, Some own) ∷ es) = go (same_queue own queue) (still_in queue es)
  where
    go : (b : Bool) → keys_in queue (still_there es) ≡ keys_in queue es → heads (cond b ((k, Some own) ∷ of_queue queue (still_there es)) (of_queue queue (still_there es))) ≡ heads (cond b ((k, Some own) ∷ of_queue queue es) (of_queue queue es))
    go true ih = ap (λ ks. k ∷ ks) ih
    go false ih = ih

-- what all are, each is
middle : (P : Key → Type 0) (xs rest : List Entry) (e : Entry) → AllByRecursion P (keys_of (xs ++ e ∷ rest)) → P e.0
middle P [] rest e all = all.0
middle P (x ∷ xs) rest e all = middle P xs rest e all.1

-- where no key stands twice, none is among those before it
not_before : (xs rest : List Entry) (e : Entry) → IsDistinct same_key (keys_of (xs ++ e ∷ rest)) → lookup (same_key e.0) xs ≡ None
unfolding IsDistinct
not_before [] rest e distinct = refl
not_before (x ∷ xs) rest e distinct =
    let here : same_key e.0 x.0 ≡ false = same_key-sym e.0 x.0 ∙ middle (λ k. same_key x.0 k ≡ false) xs rest e distinct.0 in
    ap (λ b. cond b (Some x.1) (lookup (same_key e.0) xs)) here ∙ not_before xs rest e distinct.1

-- what is not among all is not among some
not_filtered : (test : Key → Bool) (p : Entry → Bool) (xs : List Entry) → lookup test xs ≡ None → lookup test (filter p xs) ≡ None
not_filtered test p [] none = refl
not_filtered test p (x ∷ xs) none = go (test x.0) refl (p x) none (λ h. not_filtered test p xs h)
  where
    go : (a : Bool) → test x.0 ≡ a → (b : Bool) → cond a (Some x.1) (lookup test xs) ≡ None → (lookup test xs ≡ None → lookup test (filter p xs) ≡ None) → lookup test (cond b (x ∷ filter p xs) (filter p xs)) ≡ None
    go true is b never ih = let n : Some x.1 ≡ None = never in cc
    go false is true none ih = ap (λ c. cond c (Some x.1) (lookup test (filter p xs))) is ∙ ih none
    go false is false none ih = ih none

-- a key that is not in the list goes last
pub goes_last : (es : List Entry) (k : Key) (own : Option Queue) → lookup (same_key k) es ≡ None → insert_entry same_key es k own ≡ es ++ (k, own) ∷ []
goes_last [] k own none = refl
goes_last (e ∷ es) k own none = go (same_key k e.0) none (λ h. goes_last es k own h)
  where
    go : (a : Bool) → cond a (Some e.1) (lookup (same_key k) es) ≡ None → (lookup (same_key k) es ≡ None → insert_entry same_key es k own ≡ es ++ (k, own) ∷ []) → cond a ((e.0, own) ∷ es) (e ∷ insert_entry same_key es k own) ≡ e ∷ es ++ (k, own) ∷ []
    go true never ih = let n : Some e.1 ≡ None = never in cc
    go false none ih = ap (λ ps. e ∷ ps) (ih none)

-- the next key that waits goes last among those that were moved
pub sifted : (xs rest : List Entry) (e : Entry) → IsDistinct same_key (keys_of (xs ++ e ∷ rest)) → is_some e.1 ≡ true → insert_entry same_key (still_there xs) e.0 e.1 ≡ still_there (xs ++ e ∷ [])
sifted xs rest e distinct stays =
    goes_last (still_there xs) e.0 e.1 (not_filtered (same_key e.0) (λ x. is_some x.1) xs (not_before xs rest e distinct))
    ∙ rw (filter-append (λ (x : Entry). is_some x.1) xs (e ∷ []), stays) refl

-- and is one more
pub sifted_more : (xs : List Entry) (e : Entry) → is_some e.1 ≡ true → length (still_there (xs ++ e ∷ [])) ≡ length (still_there xs) + 1
sifted_more xs e stays = rw (filter-append (λ (x : Entry). is_some x.1) xs (e ∷ []), stays) (length-append (still_there xs) (e ∷ []))

-- ---- the first of a queue

pub none_wait : (queue : Queue) (es : List Entry) → length (keys_in queue es) ≡ 0 → slice_get (keys_in queue es) 0 ≡ None
none_wait queue es none = go (keys_in queue es) none
  where
    go : (ks : List Key) → length ks ≡ 0 → slice_get ks 0 ≡ None
    go [] h = refl
    go (k ∷ ks) h = absurd (omega arith)

pub first_found : (queue : Queue) (es : List Entry) (i : ℕ) (e : Entry) → slice_get es i ≡ Some e → keys_in queue (take i es) ≡ [] → is_there e.1 queue ≡ true → slice_get (keys_in queue es) 0 ≡ Some e.0
first_found queue [] i e at none is = let n : None ≡ Some e = at in cc
first_found queue (x ∷ es) zero e at none is = let same : x ≡ e = cc in rw same (ap (λ b. slice_get (heads (cond b (e ∷ of_queue queue es) (of_queue queue es))) 0) is)
first_found queue (x ∷ es) (suc i) e at none is = go (is_there x.1 queue) none (λ h. first_found queue es i e at h is)
  where
    go : (b : Bool) → heads (cond b (x ∷ of_queue queue (take i es)) (of_queue queue (take i es))) ≡ [] → (keys_in queue (take i es) ≡ [] → slice_get (keys_in queue es) 0 ≡ Some e.0) → slice_get (heads (cond b (x ∷ of_queue queue es) (of_queue queue es))) 0 ≡ Some e.0
    go true never ih = cc
    go false none ih = ih none

pub none_more : (queue : Queue) (es : List Entry) (i : ℕ) (e : Entry) → slice_get es i ≡ Some e → keys_in queue (take i es) ≡ [] → is_there e.1 queue ≡ false → keys_in queue (take (suc i) es) ≡ []
none_more queue [] i e at none is = let n : None ≡ Some e = at in cc
none_more queue (x ∷ es) zero e at none is = let same : x ≡ e = cc in rw same (ap (λ b. heads (cond b (e ∷ []) [])) is)
none_more queue (x ∷ es) (suc i) e at none is = go (is_there x.1 queue) none (λ h. none_more queue es i e at h is)
  where
    go : (b : Bool) → heads (cond b (x ∷ of_queue queue (take i es)) (of_queue queue (take i es))) ≡ [] → (keys_in queue (take i es) ≡ [] → keys_in queue (take (suc i) es) ≡ []) → heads (cond b (x ∷ of_queue queue (take (suc i) es)) (of_queue queue (take (suc i) es))) ≡ []
    go true never ih = cc
    go false none ih = ih none
