-- Where the first one that passes stands in a list that is cut into parts.
use Rattle.std.proofs.Common.{◌≡◌, ℕ, suc, ◌+◌, List, [], ◌∷◌, ◌++◌, length, refl, sym, ap, ◌∙◌, arith}
use Rattle.std.specs.Prelude.{Bool, true, false, not, cond, filter, nat_eq, nat_lt, position, Option, Some, None, option_map}
use Rattle.std.specs.List.{AllByRecursion, position_or_len}
use Rattle.std.proofs.lemmas.Bool.Decides.{nat_tests}
use Rattle.plain_shapes.specs.Features.{Feature}
use Rattle.plain_shapes.specs.Data.{ids_of}
use Rattle.data_versions.specs.Near.{place_of}

first_cases : (b : Bool) (n m : ℕ) → cond (nat_lt (cond (not b) (1 + n) 0) (suc m)) (Some (cond (not b) (1 + n) 0)) None
    ≡ cond b (Some 0) (option_map (λ k. k + 1) (cond (nat_lt n m) (Some n) None))
first_cases true n m = grind (arith, nat_tests)
first_cases false n m = later_cases n m (nat_lt n m) refl
  where
    later_cases : (n m : ℕ) (c : Bool) → nat_lt n m ≡ c → cond (nat_lt (1 + n) (suc m)) (Some (1 + n)) None ≡ option_map (λ k. k + 1) (cond (nat_lt n m) (Some n) None)
    later_cases n m c e = grind (arith, nat_tests)

-- the first one that passes: the head, or one of the rest
pub position-cons : {X : Type 0} (p : X → Bool) (x : X) (xs : List X) → position p (x ∷ xs) ≡ cond (p x) (Some 0) (option_map (λ k. k + 1) (position p xs))
position-cons p x xs = first_cases (p x) (position_or_len p xs) (length xs)

-- one that is found, or a later one, n steps on
abbrev or_later : ℕ → Option ℕ → Option ℕ → Option ℕ
or_later n (Some k) later = Some k
or_later n None later = option_map (λ k. n + k) later

no_steps : (o : Option ℕ) → o ≡ option_map (λ k. 0 + k) o
no_steps None = refl
no_steps (Some k) = ap Some (omega arith)

one_more : (b : Bool) (n : ℕ) (o later : Option ℕ) → cond b (Some 0) (option_map (λ k. k + 1) (or_later n o later))
    ≡ or_later (suc n) (cond b (Some 0) (option_map (λ k. k + 1) o)) later
one_more true n o later = refl
one_more false n (Some k) later = refl
one_more false n None (Some k) = ap Some (omega arith)
one_more false n None None = refl

position-append : {X : Type 0} (p : X → Bool) (xs ys : List X) → position p (xs ++ ys) ≡ or_later (length xs) (position p xs) (position p ys)
position-append p [] ys = no_steps (position p ys)
position-append p (x ∷ xs) ys =
    position-cons p x (xs ++ ys) ∙ ap (λ (o : Option ℕ). cond (p x) (Some 0) (option_map (λ k. k + 1) o)) (position-append p xs ys)
    ∙ one_more (p x) (length xs) (position p xs) (position p ys) ∙ ap (λ (o : Option ℕ). or_later (suc (length xs)) o (position p ys)) (sym (position-cons p x xs))

-- one that is found in the first part, and one that is not
pub found_left : {X : Type 0} (p : X → Bool) (xs ys : List X) (k : ℕ) → position p xs ≡ Some k → position p (xs ++ ys) ≡ Some k
found_left p xs ys k found = position-append p xs ys ∙ rw found refl

pub found_right : {X : Type 0} (p : X → Bool) (xs ys : List X) → position p xs ≡ None → position p (xs ++ ys) ≡ option_map (λ k. length xs + k) (position p ys)
found_right p xs ys none = position-append p xs ys ∙ rw none refl

-- where none passes, none is found
pub none_passes : {X : Type 0} (p : X → Bool) (xs : List X) → AllByRecursion (λ x. p x ≡ false) xs → position p xs ≡ None
none_passes p [] each = refl
none_passes p (x ∷ xs) each = position-cons p x xs ∙ rw (each.0, none_passes p xs each.1) refl

-- ---- those that pass

-- where none passes, none is kept
pub none_kept : {X : Type 0} (p : X → Bool) (xs : List X) → AllByRecursion (λ x. p x ≡ false) xs → filter p xs ≡ []
none_kept p [] each = refl
none_kept p (x ∷ xs) each = rw (each.0, none_kept p xs each.1) refl

-- ---- the place of an id

-- where no feature has the id, it has no place
pub no_place : (features : List Feature) (id : ℕ) → AllByRecursion (λ q. nat_eq id q ≡ false) (ids_of features) → place_of features id ≡ None
no_place [] id each = refl
no_place (f ∷ features) id each = position-cons (λ g. nat_eq g.id id) f features ∙ rw (flip f.id id, each.0, no_place features id each.1) refl
  where
    flip : (a b : ℕ) → nat_eq a b ≡ nat_eq b a
    flip a b = grind (arith, nat_tests)
