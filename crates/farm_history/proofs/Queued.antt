-- What waits, queue by queue.
use Rattle.std.proofs.Common.{Option, None, ◌≡◌, Bool, true, false, not, cond, List, [], ◌∷◌, ◌++◌, length, filter, find, slice_get, Some, refl, sym, ◌∙◌, arith}
use Rattle.std.specs.Option.{option_or}
use Rattle.std.proofs.lemmas.List.Sums.{length-filter}
use Rattle.farm_history.specs.declared.keys.Key.{Key}
use Rattle.farm_history.specs.declared.queues.Queue.{Queue}
use Rattle.farm_history.specs.Plans.{Waits, same_key, same_queue, without_key, how_many_in, first_in, next}
use Rattle.farm_history.specs.Seen.{in_queue}
use Rattle.farm_history.specs.Lists.{Each}
use Rattle.farm_history.proofs.Lists.{each-find, filter-append, filter-filter, filter-agree, each-all}

-- as many wait in a queue as its list is long
pub how_many_in_queue : (queue : Queue) (ws : List Waits) → how_many_in ws queue ≡ length (in_queue queue ws)
how_many_in_queue queue ws = sym (length-filter (λ w. same_queue w.queue queue) ws)

-- one that comes last in its queue
pub in_queue_append : (queue : Queue) (ws : List Waits) (w : Waits) → in_queue queue (ws ++ w ∷ []) ≡ in_queue queue ws ++ cond (same_queue w.queue queue) (w ∷ []) []
in_queue_append queue ws w = filter-append (λ x. same_queue x.queue queue) ws (w ∷ [])

-- a key that is taken out of all is taken out of each queue
pub in_queue_without : (queue : Queue) (k : Key) (ws : List Waits) → in_queue queue (without_key k ws) ≡ without_key k (in_queue queue ws)
in_queue_without queue k ws =
    filter-filter (λ w. same_queue w.queue queue) (λ w. not (same_key w.key k)) ws
    ∙ (filter-agree _ _ ws (each-all _ ws (λ w. grind arith)) ∙ sym (filter-filter (λ w. not (same_key w.key k)) (λ w. same_queue w.queue queue) ws))

-- the first of a list
pub find_first : {X : Type 0} (q : X → Bool) (xs : List X) → find q xs ≡ slice_get (filter q xs) 0
find_first q [] = refl
find_first q (x ∷ xs) = go (q x) (find_first q xs)
  where
    go : (b : Bool) → find q xs ≡ slice_get (filter q xs) 0 → cond b (Some x) (find q xs) ≡ slice_get (cond b (x ∷ filter q xs) (filter q xs)) 0
    go true ih = refl
    go false ih = ih

-- what is taken next is one of those that wait
pub next_found : (P : Waits → Type 0) (ws : List Waits) (w : Waits) → Each P ws → next ws ≡ Some w → P w
unfolding next
next_found P ws w each h = go (first_in ws Queue.Prio) refl h
  where
    found : (queue : Queue) → first_in ws queue ≡ Some w → P w
    found queue is = each-find P _ ws w each is

    from_bulk : (o : Option Waits) → first_in ws Queue.Bulk ≡ o → o ≡ Some w → P w
    from_bulk o is h = found Queue.Bulk (is ∙ h)

    from_dirty : (o : Option Waits) → first_in ws Queue.Dirty ≡ o → option_or o (first_in ws Queue.Bulk) ≡ Some w → P w
    from_dirty None is h = from_bulk (first_in ws Queue.Bulk) refl h
    from_dirty (Some x) is h = found Queue.Dirty (is ∙ h)

    from_low : (o : Option Waits) → first_in ws Queue.Low ≡ o → option_or o (option_or (first_in ws Queue.Dirty) (first_in ws Queue.Bulk)) ≡ Some w → P w
    from_low None is h = from_dirty (first_in ws Queue.Dirty) refl h
    from_low (Some x) is h = found Queue.Low (is ∙ h)

    from_request : (o : Option Waits) → first_in ws Queue.Request ≡ o → option_or o (option_or (first_in ws Queue.Low) (option_or (first_in ws Queue.Dirty) (first_in ws Queue.Bulk))) ≡ Some w → P w
    from_request None is h = from_low (first_in ws Queue.Low) refl h
    from_request (Some x) is h = found Queue.Request (is ∙ h)

    go : (o : Option Waits) → first_in ws Queue.Prio ≡ o → option_or o (option_or (first_in ws Queue.Request) (option_or (first_in ws Queue.Low) (option_or (first_in ws Queue.Dirty) (first_in ws Queue.Bulk)))) ≡ Some w → P w
    go None is h = from_request (first_in ws Queue.Request) refl h
    go (Some x) is h = found Queue.Prio (is ∙ h)
