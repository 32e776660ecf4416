-- The ask that a reply is to, among those that wait.
use Rattle.std.proofs.Common.{◌≡◌, ℕ, Bool, true, false, ◌==◌, cond, List, [], ◌∷◌, find, Some, refl, ap}
use Rattle.std.specs.Prelude.{option_map}
use Rattle.farm_history.specs.Lists.{without_first}
use Rattle.session_front.specs.declared.waits.Waiting.{Waiting}
use Rattle.session_front.specs.inner.Reads.{is_wait, pair_of, pairs}

abbrev pub of_ask : ℕ → Waiting → Bool
of_ask n w = w.number == n

pub find_pairs : (n : ℕ) (ws : List Waiting) → option_map pair_of (find (λ w. w.number == n) ws) ≡ find (is_wait n) (pairs ws)
find_pairs n [] = refl
find_pairs n (w ∷ ws) = go (w.number == n) (find_pairs n ws)
  where
    go : (b : Bool) → option_map pair_of (find (λ v. v.number == n) ws) ≡ find (is_wait n) (pairs ws)
        → option_map pair_of (cond b (Some w) (find (λ v. v.number == n) ws)) ≡ cond b (Some (pair_of w)) (find (is_wait n) (pairs ws))
    go true ih = refl
    go false ih = ih

pub left_pairs : (n : ℕ) (ws : List Waiting) → pairs (without_first (λ w. w.number == n) ws) ≡ without_first (is_wait n) (pairs ws)
unfolding without_first
left_pairs n [] = refl
left_pairs n (w ∷ ws) = go (w.number == n) (left_pairs n ws)
  where
    go : (b : Bool) → pairs (without_first (λ v. v.number == n) ws) ≡ without_first (is_wait n) (pairs ws)
        → pairs (cond b ws (w ∷ without_first (λ v. v.number == n) ws)) ≡ cond b (pairs ws) (pair_of w ∷ without_first (is_wait n) (pairs ws))
    go true ih = refl
    go false ih = ap (λ l. pair_of w ∷ l) ih
