-- Keys of a queue, and one that leaves.
use Rattle.std.proofs.Common.{suc, ◌≡◌, ◌≤◌, Bool, true, false, not, cond, List, [], ◌∷◌, length, ap, arith}
use Rattle.farm_history.specs.declared.keys.Key.{Key}
use Rattle.farm_history.specs.Plans.{same_key, is_in}
use Rattle.farm_history.proofs.Lists.{any-filter_off, each-map, filter-all, none-each}
use Rattle.render_queues.specs.OneQueue.{without}

-- what is without a key is no longer
pub without_few : (gone : Key) (xs : List Key) → length (without gone xs) ≤ length xs
without_few gone [] = omega arith
without_few gone (x ∷ xs) = go (same_key x gone) (without_few gone xs)
  where
    go : (b : Bool) → length (without gone xs) ≤ length xs → length (cond (not b) (x ∷ without gone xs) (without gone xs)) ≤ suc (length xs)
    go true few = omega arith
    go false few = omega arith

-- a key that is not there leaves all
pub without_absent : (key : Key) (ks : List Key) → is_in key ks ≡ false → without key ks ≡ ks
without_absent key ks absent = filter-all _ ks (each-map _ _ ks (λ x h. ap not h) (none-each (λ x. same_key x key) ks absent))

-- and one that has left is not there
pub without_gone : (key : Key) (ks : List Key) → is_in key (without key ks) ≡ false
without_gone key ks = any-filter_off (λ x. same_key x key) (λ x. not (same_key x key)) ks (λ x h. ap not h)
