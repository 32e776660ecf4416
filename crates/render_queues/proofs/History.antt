-- The tables beside a history: what waits, who waits for it, and the replies.
use Rattle.std.proofs.Common.{◌≡◌, true, List, [], ◌∷◌, map, slice_get, Some, refl, sym, ap, ap₂, ◌∙◌}
use Rattle.std.specs.Prelude.{option_map}
use Rattle.std.specs.Option.{option_or}
use Rattle.farm_history.specs.declared.queues.Queue.{Queue}
use Rattle.farm_history.specs.Lists.{Each}
use Rattle.farm_history.specs.Plans.{Waits, same_queue, first_in, next}
use Rattle.farm_history.specs.Seen.{in_queue}
use Rattle.farm_history.proofs.Lists.{each-passes}
use Rattle.farm_history.proofs.Queued.{find_first}
use Rattle.render_queues.specs.OneQueue.{Lines}
use Rattle.render_queues.specs.Tables.{line_of, first_of}
use Rattle.render_queues.specs.Laws.{LawNext}

-- queues that are the same are equal
pub same_queue-true : (a b : Queue) → same_queue a b ≡ true → a ≡ b
same_queue-true Queue.Prio Queue.Prio h = refl
same_queue-true Queue.Request Queue.Request h = refl
same_queue-true Queue.Low Queue.Low h = refl
same_queue-true Queue.Dirty Queue.Dirty h = refl
same_queue-true Queue.Bulk Queue.Bulk h = refl
same_queue-true Queue.Prio Queue.Request h = cc
same_queue-true Queue.Prio Queue.Low h = cc
same_queue-true Queue.Prio Queue.Dirty h = cc
same_queue-true Queue.Prio Queue.Bulk h = cc
same_queue-true Queue.Request Queue.Prio h = cc
same_queue-true Queue.Request Queue.Low h = cc
same_queue-true Queue.Request Queue.Dirty h = cc
same_queue-true Queue.Request Queue.Bulk h = cc
same_queue-true Queue.Low Queue.Prio h = cc
same_queue-true Queue.Low Queue.Request h = cc
same_queue-true Queue.Low Queue.Dirty h = cc
same_queue-true Queue.Low Queue.Bulk h = cc
same_queue-true Queue.Dirty Queue.Prio h = cc
same_queue-true Queue.Dirty Queue.Request h = cc
same_queue-true Queue.Dirty Queue.Low h = cc
same_queue-true Queue.Dirty Queue.Bulk h = cc
same_queue-true Queue.Bulk Queue.Prio h = cc
same_queue-true Queue.Bulk Queue.Request h = cc
same_queue-true Queue.Bulk Queue.Low h = cc
same_queue-true Queue.Bulk Queue.Dirty h = cc

-- the first key of a queue's list, with the queue, is the first of the list
first_same : (queue : Queue) (ws : List Waits) → Each (λ w. same_queue w.queue queue ≡ true) ws →
    option_map (λ key. let w : Waits = record { queue = queue; key = key } in w) (slice_get (map (λ w. w.key) ws) 0) ≡ slice_get ws 0
first_same queue [] each = refl
first_same queue (w ∷ ws) each = ap (λ q. let v : Waits = record { queue = q; key = w.key } in Some v) (sym (same_queue-true w.queue queue each.0))

-- the first of a queue
first_joined : (ls : Lines) (ws : List Waits) (queue : Queue) → (line_of ls queue).keys ≡ map (λ w. w.key) (in_queue queue ws) → first_of ls queue ≡ first_in ws queue
first_joined ls ws queue are =
    ap (λ ks. option_map (λ key. let w : Waits = record { queue = queue; key = key } in w) (slice_get ks 0)) are
    ∙ (first_same queue (in_queue queue ws) (each-passes (λ w. same_queue w.queue queue) ws) ∙ sym (find_first (λ w. same_queue w.queue queue) ws))

-- what is taken next
pub next_joined : LawNext
unfolding next
next_joined ls ws are =
    ap₂ option_or (first_joined ls ws Queue.Prio (are Queue.Prio)) (ap₂ option_or (first_joined ls ws Queue.Request (are Queue.Request)) (ap₂ option_or (first_joined ls ws Queue.Low (are Queue.Low))
    (ap₂ option_or (first_joined ls ws Queue.Dirty (are Queue.Dirty)) (first_joined ls ws Queue.Bulk (are Queue.Bulk)))))
