-- Where a key stands: at most once, so that the first place where it is found is the only one.
use Rattle.std.proofs.Common.{◌≡◌, ℕ, ◌+◌, ◌≤◌, Bool, true, false, ◌||◌, not, cond, List, [], ◌∷◌, find, Option, Some, None, refl, ap, subst, arith}
use Rattle.render_queues.proofs.Counted.{there_once}
use Rattle.farm_history.specs.declared.keys.Key.{Key}
use Rattle.farm_history.specs.declared.queues.Queue.{Queue}
use Rattle.farm_history.specs.declared.queues.Outcome.{Outcome}
use Rattle.farm_history.specs.declared.queues.Reply.{Reply}
use Rattle.farm_history.specs.Plans.{same_key, same_queue, is_in}
use Rattle.farm_history.proofs.Lists.{any-filter_off}
use Rattle.farm_history.specs.Lists.{without_first}
use Rattle.render_queues.specs.declared.standing.Standing.{Standing}
use Rattle.render_queues.specs.declared.standing.Standing.TheVariants.{Waits as InLine, Taken}
use Rattle.render_queues.specs.OneQueue.{without}
use Rattle.render_queues.specs.Tables.{Tables, how_often, standing, after_end, AreSound}
use Rattle.farm_core.specs.inner.Asks.{StandsBy}
use Rattle.farm_refinement.specs.inner.Events.{waits_at}

-- one that is among them is counted
pub often : (k : Key) (keys : List Key) → cond (is_in k keys) 1 0 ≤ how_often k keys
often k keys = go (is_in k keys) refl
  where
    go : (b : Bool) → is_in k keys ≡ b → cond b 1 0 ≤ how_often k keys
    go true is = there_once k keys is
    go false is = omega arith

-- of these six places a key stands in at most one
pub record StandsOnce (t : Tables) (k : Key) : Type 0 where
  pub once : cond (is_in k t.taken) 1 0 + cond (is_in k t.lines.prio.keys) 1 0 + cond (is_in k t.lines.request.keys) 1 0 + cond (is_in k t.lines.low.keys) 1 0
      + cond (is_in k t.lines.dirty.keys) 1 0 + cond (is_in k t.lines.bulk.keys) 1 0 ≤ 1

pub stands_once : (t : Tables) (k : Key) → AreSound t → StandsOnce t k
stands_once t k s =
    record {
      once = omega (arith, s.once k, often k t.taken, often k t.lines.prio.keys, often k t.lines.request.keys, often k t.lines.low.keys, often k t.lines.dirty.keys, often k t.lines.bulk.keys);
    }

-- a key that was taken stands nowhere after its end
pub ended_nowhere : (t : Tables) (k : Key) (outcome : Outcome) → AreSound t → is_in k t.taken ≡ true → standing (after_end t k outcome) k ≡ None
ended_nowhere t k outcome s taken =
    let gone : is_in k (without k t.taken) ≡ false = any-filter_off (λ (x : Key). same_key x k) (λ (x : Key). not (same_key x k)) t.taken (λ x h. ap not h) in
    go (is_in k (without k t.taken)) (is_in k t.lines.prio.keys) (is_in k t.lines.request.keys) (is_in k t.lines.low.keys) (is_in k t.lines.dirty.keys) (is_in k t.lines.bulk.keys) gone
    (omega (arith, (stands_once t k s).once, ap {B = ℕ} (λ b. cond b 1 0) taken))
  where
    go : (a p r l d b : Bool) → a ≡ false → cond p 1 0 + cond r 1 0 + cond l 1 0 + cond d 1 0 + cond b 1 0 ≤ 0 →
        cond a (Some Taken) (cond p (Some (InLine Queue.Prio)) (cond r (Some (InLine Queue.Request)) (cond l (Some (InLine Queue.Low)) (cond d (Some (InLine Queue.Dirty)) (cond b (Some (InLine Queue.Bulk)) None))))) ≡ None
    go true p r l d b e h = let never : true ≡ false = e in cc
    go false true r l d b e h = absurd (omega (arith, h))
    go false false true l d b e h = absurd (omega (arith, h))
    go false false false true d b e h = absurd (omega (arith, h))
    go false false false false true b e h = absurd (omega (arith, h))
    go false false false false false true e h = absurd (omega (arith, h))
    go false false false false false false e h = refl

-- ---- what is found of a key

ladder : Bool → Bool → Bool → Bool → Bool → Bool → Option Standing
ladder a p r l d b = cond a (Some Taken) (cond p (Some (InLine Queue.Prio)) (cond r (Some (InLine Queue.Request)) (cond l (Some (InLine Queue.Low)) (cond d (Some (InLine Queue.Dirty)) (cond b (Some (InLine Queue.Bulk)) None)))))

any5 : Bool → Bool → Bool → Bool → Bool → Bool
any5 p r l d b = p || (r || (l || (d || b)))

by_ladder : (a p r l d b : Bool) → cond a 1 0 + cond p 1 0 + cond r 1 0 + cond l 1 0 + cond d 1 0 + cond b 1 0 ≤ 1 → StandsBy (ladder a p r l d b) a (any5 p r l d b) d b
unfolding ladder any5
by_ladder false false false false false false h = (refl, refl, refl, refl)
by_ladder false false false false false true h = (refl, refl, refl, refl)
by_ladder false false false false true false h = (refl, refl, refl, refl)
by_ladder false false false false true true h = absurd (omega (arith, h))
by_ladder false false false true false false h = (refl, refl, refl, refl)
by_ladder false false false true true b h = absurd (omega (arith, h))
by_ladder false false false true false true h = absurd (omega (arith, h))
by_ladder false false true false false false h = (refl, refl, refl, refl)
by_ladder false false true true d b h = absurd (omega (arith, h))
by_ladder false false true false true b h = absurd (omega (arith, h))
by_ladder false false true false false true h = absurd (omega (arith, h))
by_ladder false true false false false false h = (refl, refl, refl, refl)
by_ladder false true true l d b h = absurd (omega (arith, h))
by_ladder false true false true d b h = absurd (omega (arith, h))
by_ladder false true false false true b h = absurd (omega (arith, h))
by_ladder false true false false false true h = absurd (omega (arith, h))
by_ladder true false false false false false h = (refl, refl, refl, refl)
by_ladder true true r l d b h = absurd (omega (arith, h))
by_ladder true false true l d b h = absurd (omega (arith, h))
by_ladder true false false true d b h = absurd (omega (arith, h))
by_ladder true false false false true b h = absurd (omega (arith, h))
by_ladder true false false false false true h = absurd (omega (arith, h))

-- what is found of a key says where it stands
pub stands_by : (t : Tables) (k : Key) → AreSound t → StandsBy (standing t k) (is_in k t.taken) (waits_at t k) (is_in k t.lines.dirty.keys) (is_in k t.lines.bulk.keys)
unfolding ladder any5
stands_by t k s = by_ladder (is_in k t.taken) (is_in k t.lines.prio.keys) (is_in k t.lines.request.keys) (is_in k t.lines.low.keys) (is_in k t.lines.dirty.keys) (is_in k t.lines.bulk.keys) (stands_once t k s).once

-- a key that is found as taken waits nowhere
pub taken_place : (t : Tables) (k : Key) → AreSound t → standing t k ≡ Some Taken → (is_in k t.taken ≡ true) × (waits_at t k ≡ false) × (is_in k t.lines.dirty.keys ≡ false) × (is_in k t.lines.bulk.keys ≡ false)
taken_place t k s e = subst (λ o. StandsBy o (is_in k t.taken) (waits_at t k) (is_in k t.lines.dirty.keys) (is_in k t.lines.bulk.keys)) e (stands_by t k s)

-- one that is found in a queue waits in that queue alone
pub line_place : (t : Tables) (k : Key) (q : Queue) → AreSound t → standing t k ≡ Some (InLine q) → (is_in k t.taken ≡ false) × (waits_at t k ≡ true) × (is_in k t.lines.dirty.keys ≡ same_queue q Queue.Dirty) × (is_in k t.lines.bulk.keys ≡ same_queue q Queue.Bulk)
line_place t k q s e = subst (λ o. StandsBy o (is_in k t.taken) (waits_at t k) (is_in k t.lines.dirty.keys) (is_in k t.lines.bulk.keys)) e (stands_by t k s)

-- where nothing is found, nothing is taken out
pub none_out : (q : Reply → Bool) (rs : List Reply) → find q rs ≡ None → without_first q rs ≡ rs
unfolding without_first
none_out q [] e = refl
none_out q (r ∷ rs) e = go (q r) e (none_out q rs)
  where
    go : (b : Bool) → cond b (Some r) (find q rs) ≡ None → (find q rs ≡ None → without_first q rs ≡ rs) → cond b rs (r ∷ without_first q rs) ≡ r ∷ rs
    go true never ih = let none : Option Reply = None in let n : Some r ≡ none = never in cc
    go false rest ih = ap (λ xs. r ∷ xs) (ih rest)
