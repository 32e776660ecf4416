-- The five queues of the tables against what waits after a history.
use Rattle.std.proofs.Common.{◌≡◌, Bool, true, false, not, ◌&&◌, ◌||◌, cond, nat_lt, List, [], ◌∷◌, ◌++◌, length, map, slice_get, Option, Some, None, option_map, refl, sym, ap, ap₂, ◌∙◌, subst, arith, append-nil}
use Rattle.std.specs.Option.{option_or}
use Rattle.std.proofs.lemmas.List.{map-append, length-map}
use Rattle.std.proofs.lemmas.Bool.Decides.{nat_tests}
use Rattle.render_queues.proofs.Keys.{without_absent}
use Rattle.farm_history.specs.declared.keys.Key.{Key}
use Rattle.farm_history.specs.declared.queues.Queue.{Queue}
use Rattle.farm_history.specs.declared.queues.Limits.{Limits}
use Rattle.farm_history.specs.Lists.{Each}
use Rattle.farm_history.specs.Plans.{Waits, AreApart, same_key, same_queue, is_in, limit_of, waits_in, waits_in_queue, without_key, has_room, first_in, next}
use Rattle.farm_history.specs.Seen.{in_queue}
use Rattle.farm_history.proofs.Lists.{same_key-true, find-any, find-passes, each-passes, map-filter, any-map, any-both}
use Rattle.farm_history.proofs.Queued.{how_many_in_queue, in_queue_append, in_queue_without, find_first}
use Rattle.render_queues.specs.OneQueue.{Lines, is_below, without}
use Rattle.render_queues.specs.Tables.{line_of, with_last, cut_from, lifted_out, first_of, next_of}
use Rattle.render_queues.proofs.History.{same_queue-true}
use Rattle.farm_refinement.specs.Stands.{waits_key}

-- ---- lines

line_pushed : (ls : Lines) (own queue : Queue) (k : Key) → (line_of (with_last ls own k) queue).keys ≡ (line_of ls queue).keys ++ cond (same_queue own queue) (k ∷ []) []
line_pushed ls Queue.Prio Queue.Prio k = refl
line_pushed ls Queue.Request Queue.Request k = refl
line_pushed ls Queue.Low Queue.Low k = refl
line_pushed ls Queue.Dirty Queue.Dirty k = refl
line_pushed ls Queue.Bulk Queue.Bulk k = refl
line_pushed ls own queue k = sym (append-nil (line_of ls queue).keys)

pub limit_pushed : (ls : Lines) (own queue : Queue) (k : Key) → (line_of (with_last ls own k) queue).limit ≡ (line_of ls queue).limit
limit_pushed ls Queue.Prio Queue.Prio k = refl
limit_pushed ls Queue.Request Queue.Request k = refl
limit_pushed ls Queue.Low Queue.Low k = refl
limit_pushed ls Queue.Dirty Queue.Dirty k = refl
limit_pushed ls Queue.Bulk Queue.Bulk k = refl
limit_pushed ls own queue k = refl

line_cut : (ls : Lines) (own queue : Queue) (k : Key) → (line_of (cut_from ls own k) queue).keys ≡ cond (same_queue own queue) (without k (line_of ls queue).keys) (line_of ls queue).keys
line_cut ls Queue.Prio Queue.Prio k = refl
line_cut ls Queue.Request Queue.Request k = refl
line_cut ls Queue.Low Queue.Low k = refl
line_cut ls Queue.Dirty Queue.Dirty k = refl
line_cut ls Queue.Bulk Queue.Bulk k = refl
line_cut ls own queue k = refl

pub limit_cut : (ls : Lines) (own queue : Queue) (k : Key) → (line_of (cut_from ls own k) queue).limit ≡ (line_of ls queue).limit
limit_cut ls Queue.Prio Queue.Prio k = refl
limit_cut ls Queue.Request Queue.Request k = refl
limit_cut ls Queue.Low Queue.Low k = refl
limit_cut ls Queue.Dirty Queue.Dirty k = refl
limit_cut ls Queue.Bulk Queue.Bulk k = refl
limit_cut ls own queue k = refl

pub limit_lifted : (ls : Lines) (queue : Queue) (k : Key) → (line_of (lifted_out ls k) queue).limit ≡ (line_of ls queue).limit
limit_lifted ls Queue.Prio k = refl
limit_lifted ls Queue.Request k = refl
limit_lifted ls Queue.Low k = refl
limit_lifted ls Queue.Dirty k = refl
limit_lifted ls Queue.Bulk k = refl

-- ---- what waits in them

-- the keys of each queue are those that wait there, in order
abbrev pub AreLines : Lines → List Waits → Type 0
AreLines ls ws = (queue : Queue) → (line_of ls queue).keys ≡ map waits_key (in_queue queue ws)

pub in_line : (ls : Lines) (ws : List Waits) (queue : Queue) (k : Key) → AreLines ls ws → is_in k (line_of ls queue).keys ≡ waits_in_queue ws queue k
in_line ls ws queue k are = ap (is_in k) (are queue) ∙ (any-map waits_key (λ x. same_key x k) (in_queue queue ws) ∙ any-both (λ w. same_key w.key k) (λ w. same_queue w.queue queue) ws)

-- one that comes last in its queue
pub lines_pushed : (ls : Lines) (ws : List Waits) (own : Queue) (k : Key) → AreLines ls ws → AreLines (with_last ls own k) (ws ++ record { queue = own; key = k } ∷ [])
lines_pushed ls ws own k are queue =
    line_pushed ls own queue k
    ∙ (ap (λ xs. xs ++ cond (same_queue own queue) (k ∷ []) []) (are queue)
    ∙ sym (ap (map waits_key) (in_queue_append queue ws w) ∙ (map-append waits_key (in_queue queue ws) _ ∙ ap (λ xs. map waits_key (in_queue queue ws) ++ xs) (one (same_queue own queue)))))
  where
    w : Waits
    w = record { queue = own; key = k }

    one : (b : Bool) → map waits_key (cond b (w ∷ []) []) ≡ cond b (k ∷ []) []
    one true = refl
    one false = refl

-- a key that waits nowhere waits in no queue
none_waits : (ws : List Waits) (queue : Queue) (k : Key) → waits_in ws k ≡ false → waits_in_queue ws queue k ≡ false
none_waits [] queue k h = refl
none_waits (w ∷ ws) queue k h = grind (arith, none_waits ws queue k)

-- a key that waits in one queue, and once, waits in no other
pub waits_alone : (ws : List Waits) (a b : Queue) (k : Key) → AreApart waits_key ws → waits_in_queue ws a k ≡ true → same_queue a b ≡ false → waits_in_queue ws b k ≡ false
waits_alone [] a b k apart there other = refl
waits_alone (w ∷ ws) a b k apart there other = go (same_key w.key k) refl there (λ rest. waits_alone ws a b k apart.1 rest other)
  where
    go : (c : Bool) → same_key w.key k ≡ c → (same_queue w.queue a && c) || waits_in_queue ws a k ≡ true → (waits_in_queue ws a k ≡ true → waits_in_queue ws b k ≡ false) → (same_queue w.queue b && c) || waits_in_queue ws b k ≡ false
    go true here at ih =
        let gone : waits_in ws k ≡ false = subst (λ (x : Key). waits_in ws x ≡ false) (same_key-true w.key k here) apart.0 in
        let off : waits_in_queue ws a k ≡ false = none_waits ws a k gone in
        let far : waits_in_queue ws b k ≡ false = none_waits ws b k gone in
        let own : same_queue w.queue a ≡ true = grind arith in
        let apart_here : same_queue w.queue b ≡ false = grind (arith, nat_tests) in
        grind arith
    go false off at ih = let rest : waits_in_queue ws a k ≡ true = grind arith in let far = ih rest in grind arith

without_is : (ls : Lines) (ws : List Waits) (k : Key) (queue : Queue) → AreLines ls ws → without k (line_of ls queue).keys ≡ map waits_key (in_queue queue (without_key k ws))
without_is ls ws k queue are =
    ap (without k) (are queue) ∙ sym (ap (map waits_key) (in_queue_without queue k ws) ∙ map-filter waits_key (λ w. not (same_key w.key k)) (λ x. not (same_key x k)) (in_queue queue ws) (λ w. refl))

-- a key that does not wait in the queue: its line without the key is its line
still_line : (ls : Lines) (ws : List Waits) (k : Key) (queue : Queue) → AreLines ls ws → waits_in_queue ws queue k ≡ false → (line_of ls queue).keys ≡ map waits_key (in_queue queue (without_key k ws))
still_line ls ws k queue are off = sym (without_absent k (line_of ls queue).keys (in_line ls ws queue k are ∙ off)) ∙ without_is ls ws k queue are

-- a key that is taken out of the queue where it waits
pub lines_cut : (ls : Lines) (ws : List Waits) (own : Queue) (k : Key) → AreApart waits_key ws → waits_in_queue ws own k ≡ true → AreLines ls ws → AreLines (cut_from ls own k) (without_key k ws)
lines_cut ls ws own k apart there are queue = line_cut ls own queue k ∙ go (same_queue own queue) refl
  where
    go : (b : Bool) → same_queue own queue ≡ b → cond b (without k (line_of ls queue).keys) (line_of ls queue).keys ≡ map waits_key (in_queue queue (without_key k ws))
    go true same = without_is ls ws k queue are
    go false other = still_line ls ws k queue are (waits_alone ws own queue k apart there other)

-- or out of the dirty and the bulk queue
pub lines_lifted : (ls : Lines) (ws : List Waits) (k : Key) → AreApart waits_key ws → waits_in_queue ws Queue.Dirty k || waits_in_queue ws Queue.Bulk k ≡ true → AreLines ls ws → AreLines (lifted_out ls k) (without_key k ws)
lines_lifted ls ws k apart there are = λ queue. go queue
  where
    off : (queue : Queue) → same_queue Queue.Dirty queue ≡ false → same_queue Queue.Bulk queue ≡ false → waits_in_queue ws queue k ≡ false
    off queue one two = at (waits_in_queue ws Queue.Dirty k) refl there
      where
        at : (b : Bool) → waits_in_queue ws Queue.Dirty k ≡ b → b || waits_in_queue ws Queue.Bulk k ≡ true → waits_in_queue ws queue k ≡ false
        at true is h = waits_alone ws Queue.Dirty queue k apart is one
        at false is h = waits_alone ws Queue.Bulk queue k apart h two

    go : (queue : Queue) → (line_of (lifted_out ls k) queue).keys ≡ map waits_key (in_queue queue (without_key k ws))
    go Queue.Prio = still_line ls ws k Queue.Prio are (off Queue.Prio refl refl)
    go Queue.Request = still_line ls ws k Queue.Request are (off Queue.Request refl refl)
    go Queue.Low = still_line ls ws k Queue.Low are (off Queue.Low refl refl)
    go Queue.Dirty = without_is ls ws k Queue.Dirty are
    go Queue.Bulk = without_is ls ws k Queue.Bulk are

-- ---- what they tell

pub below_is : (ls : Lines) (ws : List Waits) (limits : Limits) (queue : Queue) → AreLines ls ws → (line_of ls queue).limit ≡ limit_of limits queue → is_below (line_of ls queue) ≡ has_room limits queue ws
below_is ls ws limits queue are limit = ap₂ nat_lt (ap length (are queue) ∙ (length-map (in_queue queue ws) waits_key ∙ sym (how_many_in_queue queue ws))) limit

-- a key waits in one of the five queues or not at all
pub waits_five : (ws : List Waits) (k : Key) → waits_in_queue ws Queue.Prio k || (waits_in_queue ws Queue.Request k || (waits_in_queue ws Queue.Low k || (waits_in_queue ws Queue.Dirty k || waits_in_queue ws Queue.Bulk k))) ≡ waits_in ws k
waits_five [] k = refl
waits_five (w ∷ ws) k = go w.queue (waits_five ws k)
  where
    go : (queue : Queue) → waits_in_queue ws Queue.Prio k || (waits_in_queue ws Queue.Request k || (waits_in_queue ws Queue.Low k || (waits_in_queue ws Queue.Dirty k || waits_in_queue ws Queue.Bulk k))) ≡ waits_in ws k →
        (waits_in_queue (record { queue = queue; key = w.key } ∷ ws) Queue.Prio k || (waits_in_queue (record { queue = queue; key = w.key } ∷ ws) Queue.Request k || (waits_in_queue (record { queue = queue; key = w.key } ∷ ws) Queue.Low k || (waits_in_queue (record { queue = queue; key = w.key } ∷ ws) Queue.Dirty k || waits_in_queue (record { queue = queue; key = w.key } ∷ ws) Queue.Bulk k)))) ≡ (same_key w.key k || waits_in ws k)
    go Queue.Prio ih = grind arith
    go Queue.Request ih = grind arith
    go Queue.Low ih = grind arith
    go Queue.Dirty ih = grind arith
    go Queue.Bulk ih = grind arith

pub waits_lines : (ls : Lines) (ws : List Waits) (k : Key) → AreLines ls ws →
    is_in k ls.prio.keys || (is_in k ls.request.keys || (is_in k ls.low.keys || (is_in k ls.dirty.keys || is_in k ls.bulk.keys))) ≡ waits_in ws k
waits_lines ls ws k are =
    ap₂ (λ a b. a || b) (in_line ls ws Queue.Prio k are) (ap₂ (λ a b. a || b) (in_line ls ws Queue.Request k are) (ap₂ (λ a b. a || b) (in_line ls ws Queue.Low k are) (ap₂ (λ a b. a || b) (in_line ls ws Queue.Dirty k are) (in_line ls ws Queue.Bulk k are))))
    ∙ waits_five ws k

first_is : (ls : Lines) (ws : List Waits) (queue : Queue) → AreLines ls ws → first_of ls queue ≡ first_in ws queue
first_is ls ws queue are =
    ap (λ ks. option_map (λ key. record { queue = queue; key = key }) (slice_get ks 0)) (are queue)
    ∙ (go (in_queue queue ws) (each-passes (λ w. same_queue w.queue queue) ws) ∙ sym (find_first (λ w. same_queue w.queue queue) ws))
  where
    go : (xs : List Waits) → Each (λ (w : Waits). same_queue w.queue queue ≡ true) xs → option_map (λ key. record { queue = queue; key = key }) (slice_get (map waits_key xs) 0) ≡ slice_get xs 0
    go [] each = refl
    go (w ∷ xs) each = let own : queue ≡ w.queue = sym (same_queue-true w.queue queue each.0) in λ i. Some (record { queue = own i; key = w.key })

pub next_is : (ls : Lines) (ws : List Waits) → AreLines ls ws → next_of ls ≡ next ws
unfolding next
next_is ls ws are =
    ap₂ option_or (first_is ls ws Queue.Prio are) (ap₂ option_or (first_is ls ws Queue.Request are) (ap₂ option_or (first_is ls ws Queue.Low are) (ap₂ option_or (first_is ls ws Queue.Dirty are) (first_is ls ws Queue.Bulk are))))

-- what is taken next waits in its queue
pub next_there : (ws : List Waits) (w : Waits) → next ws ≡ Some w → waits_in_queue ws w.queue w.key ≡ true
unfolding next
next_there ws w is = go (first_in ws Queue.Prio) refl is
  where
    found : (queue : Queue) → first_in ws queue ≡ Some w → waits_in_queue ws w.queue w.key ≡ true
    found queue at =
        let own : w.queue ≡ queue = same_queue-true w.queue queue (find-passes (λ x. same_queue x.queue queue) ws w at) in
        find-any (λ x. same_queue x.queue queue) (λ x. same_queue x.queue w.queue && same_key x.key w.key) ws w at (grind (arith, nat_tests))

    from_dirty : (o : Option Waits) → first_in ws Queue.Dirty ≡ o → option_or o (first_in ws Queue.Bulk) ≡ Some w → waits_in_queue ws w.queue w.key ≡ true
    from_dirty None at h = found Queue.Bulk h
    from_dirty (Some x) at h = found Queue.Dirty (at ∙ h)

    from_low : (o : Option Waits) → first_in ws Queue.Low ≡ o → option_or o (option_or (first_in ws Queue.Dirty) (first_in ws Queue.Bulk)) ≡ Some w → waits_in_queue ws w.queue w.key ≡ true
    from_low None at h = from_dirty (first_in ws Queue.Dirty) refl h
    from_low (Some x) at h = found Queue.Low (at ∙ h)

    from_request : (o : Option Waits) → first_in ws Queue.Request ≡ o → option_or o (option_or (first_in ws Queue.Low) (option_or (first_in ws Queue.Dirty) (first_in ws Queue.Bulk))) ≡ Some w → waits_in_queue ws w.queue w.key ≡ true
    from_request None at h = from_low (first_in ws Queue.Low) refl h
    from_request (Some x) at h = found Queue.Request (at ∙ h)

    go : (o : Option Waits) → first_in ws Queue.Prio ≡ o → option_or o (option_or (first_in ws Queue.Request) (option_or (first_in ws Queue.Low) (option_or (first_in ws Queue.Dirty) (first_in ws Queue.Bulk)))) ≡ Some w → waits_in_queue ws w.queue w.key ≡ true
    go None at h = from_request (first_in ws Queue.Request) refl h
    go (Some x) at h = found Queue.Prio (at ∙ h)
