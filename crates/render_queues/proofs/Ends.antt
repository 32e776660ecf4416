-- The first reply of a front, and what is left without it.
use Rattle.std.proofs.Common.{suc, ◌≡◌, ℕ, ◌+◌, ◌<◌, ◌≤◌, Bool, true, false, not, cond, List, [], ◌∷◌, length, filter, find, get_or, nat_lt, Some, None, refl, sym, ap, ◌∙◌, arith}
use Rattle.std.specs.List.{position, position_or_len, remove}
use Rattle.std.proofs.lemmas.Bool.Decides.{nat_tests}
use Rattle.std.proofs.lemmas.List.Folds.{find_at}
use Rattle.std.proofs.lemmas.List.Sums.{length-filter, count_by-le-length}
use Rattle.std.proofs.lemmas.Option.{slice_get-get_or}
use Rattle.farm_history.specs.Lists.{without_first}

-- where nothing passes the test, nothing is found and nothing goes
pub first_none : {X : Type 0} (q : X → Bool) (xs : List X) → length xs ≤ position_or_len q xs → (find q xs ≡ None) × (without_first q xs ≡ xs)
unfolding without_first
first_none q [] few = (refl, refl)
first_none {X} q (x ∷ xs) few = go (q x) (first_none q xs) few
  where
    go : (b : Bool) → (length xs ≤ position_or_len q xs → (find q xs ≡ None) × (without_first q xs ≡ xs)) → suc (length xs) ≤ cond (not b) (1 + position_or_len q xs) 0 →
        (cond b (Some x) (find q xs) ≡ None) × (cond b xs (x ∷ without_first q xs) ≡ x ∷ xs)
    go true ih few = absurd (omega arith)
    go false ih few = let rest = ih (omega arith) in (rest.0, ap (λ ys. x ∷ ys) rest.1)

-- the first that passes is taken out at its place
pub first_out : {X : Type 0} (q : X → Bool) (xs : List X) → without_first q xs ≡ remove xs (position_or_len q xs)
unfolding without_first
first_out q [] = refl
first_out {X} q (x ∷ xs) = go (q x) (first_out q xs)
  where
    go : (b : Bool) → without_first q xs ≡ remove xs (position_or_len q xs) → cond b xs (x ∷ without_first q xs) ≡ remove (x ∷ xs) (cond (not b) (1 + position_or_len q xs) 0)
    go true ih = refl
    go false ih = let next : 1 + position_or_len q xs ≡ suc (position_or_len q xs) = omega arith in rw next (ap (λ ys. x ∷ ys) ih)

-- where there is no place, the first that passes is past the end
pub no_place : {X : Type 0} (q : X → Bool) (xs : List X) → position q xs ≡ None → length xs ≤ position_or_len q xs
no_place q xs h = go (nat_lt (position_or_len q xs) (length xs)) refl h
  where
    go : (b : Bool) → nat_lt (position_or_len q xs) (length xs) ≡ b → cond b (Some (position_or_len q xs)) None ≡ None → length xs ≤ position_or_len q xs
    go true is h = cc
    go false is h = grind (arith, nat_tests)

-- and where there is one, it is that of the first
pub the_place : {X : Type 0} (q : X → Bool) (xs : List X) (i : ℕ) → position q xs ≡ Some i → (i ≡ position_or_len q xs) × (i < length xs)
the_place q xs i h = go (nat_lt (position_or_len q xs) (length xs)) refl h
  where
    go : (b : Bool) → nat_lt (position_or_len q xs) (length xs) ≡ b → cond b (Some (position_or_len q xs)) None ≡ Some i → (i ≡ position_or_len q xs) × (i < length xs)
    go true is h = let same : position_or_len q xs ≡ i = cc in let less : position_or_len q xs < length xs = grind (arith, nat_tests) in (sym same, omega arith)
    go false is h = cc

-- what is found is what stands at the place
pub found_there : {X : Type 0} (q : X → Bool) (xs : List X) (i : ℕ) (x : X) → position q xs ≡ Some i → x ≡ get_or xs i x → find q xs ≡ Some x
found_there q xs i x h is =
    let at = the_place q xs i h in
    find_at q xs ∙ (rw (sym at.0) (slice_get-get_or xs i x at.1) ∙ ap Some (sym is))

-- and what is left is the list without that place
pub left_there : {X : Type 0} (q : X → Bool) (xs : List X) (i : ℕ) → position q xs ≡ Some i → remove xs i ≡ without_first q xs
left_there q xs i h = let at = the_place q xs i h in rw at.0 (sym (first_out q xs))

-- a filter leaves no more
pub filter_fewer : {X : Type 0} (q : X → Bool) (xs : List X) → length (filter q xs) ≤ length xs
filter_fewer q xs = omega (arith, length-filter q xs, count_by-le-length q xs)
