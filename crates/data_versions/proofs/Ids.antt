-- What a table of ids says of the places of the features.
use Rattle.std.proofs.Common.{◌≡◌, ℕ, suc, ◌+◌, ◌<◌, List, [], ◌∷◌, ◌++◌, length, take, get_or, refl, sym, ap, ◌∙◌, inl, inr, append_assoc, length-append, arith}
use Rattle.std.specs.Prelude.{true, false, nat_eq, All, Option, Some, None, option_map, cond, Ok, Err}
use Rattle.std.specs.Ordering.{nat_cmp, ordering_index}
use Rattle.std.specs.List.{AllByRecursion, IsDistinct, flat_map}
use Rattle.std.specs.List.Sorted.{IsBinarySearchResult, IsNonDecreasingBy}
use Rattle.std.proofs.lemmas.Bool.{cases_lt}
use Rattle.std.proofs.lemmas.Bool.Decides.{nat_tests}
use Rattle.std.proofs.lemmas.Cmp.{ranked}
use Rattle.std.proofs.lemmas.List.{take_more}
use Rattle.std.proofs.lemmas.List.Elements.{All-from_recursion, recursion_from_All}
use Rattle.std.proofs.lemmas.List.Sorted.{All-permutation, IsPermutation-sym, IsNonDecreasingBy-from_default}
use Rattle.std.proofs.lemmas.Map.Keys.{IsDistinct-head, IsDistinct-tail}
use Rattle.plain_shapes.specs.Features.{Feature}
use Rattle.plain_shapes.specs.Data.{ids_of}
use Rattle.data_versions.specs.Near.{place_of}
use Rattle.data_versions.specs.inner.Ids.{numbered, IsIdTable}
use Rattle.data_versions.proofs.Laid.{laid_more}
use Rattle.data_versions.proofs.Finds.{position-cons, no_place}

-- ---- numbering

numbered-append : (n : ℕ) (xs ys : List Feature) → numbered n (xs ++ ys) ≡ numbered n xs ++ numbered (n + length xs) ys
numbered-append n [] ys = ap (λ m. numbered m ys) (omega arith)
numbered-append n (x ∷ xs) ys =
    ap (λ ps. (x.id, n) ∷ ps) (numbered-append (suc n) xs ys ∙ ap (λ m. numbered (suc n) xs ++ numbered m ys) (omega arith))

length-numbered : (n : ℕ) (xs : List Feature) → length (numbered n xs) ≡ length xs
length-numbered n [] = refl
length-numbered n (x ∷ xs) = ap suc (length-numbered (suc n) xs)

pub numbered_long : (pairs old : List (ℕ × ℕ)) (features : List Feature) → pairs ≡ old ++ numbered (length old) features → length pairs ≡ length old + length features
numbered_long pairs old features before =
    omega (arith, ap length before, length-append old (numbered (length old) features), length-numbered (length old) features)

-- one more feature
pub numbered_more : (pairs after old : List (ℕ × ℕ)) (features : List Feature) (i place : ℕ) (f : Feature) → i < length features → f ≡ get_or features i f
    → pairs ≡ old ++ numbered (length old) (take i features) → place ≡ length pairs → after ≡ pairs ++ (f.id, place) ∷ []
    → after ≡ old ++ numbered (length old) (take (i + 1) features)
numbered_more pairs after old features i place f small at before last more =
    let next : take (i + 1) features ≡ take i features ++ f ∷ [] = take_more features i f small ∙ ap (λ (g : Feature). take i features ++ g ∷ []) (sym at) in
    let number : place ≡ length old + length (take i features) =
    omega (arith, last, ap length before, length-append old (numbered (length old) (take i features)), length-numbered (length old) (take i features)) in
    more ∙ ap (λ ps. ps ++ (f.id, place) ∷ []) before ∙ append_assoc old (numbered (length old) (take i features)) ((f.id, place) ∷ [])
    ∙ ap (λ ps. old ++ ps) (ap (λ n. numbered (length old) (take i features) ++ (f.id, n) ∷ []) number
    ∙ sym (ap (numbered (length old)) next ∙ numbered-append (length old) (take i features) (f ∷ [])))

-- one more block
pub block_numbered : {B : Type 0} (inside : B → List Feature) (pairs after old : List (ℕ × ℕ)) (blocks : List B) (i : ℕ) (b : B) → i < length blocks → b ≡ get_or blocks i b
    → pairs ≡ old ++ numbered (length old) (flat_map inside (take i blocks)) → after ≡ pairs ++ numbered (length pairs) (inside b)
    → after ≡ old ++ numbered (length old) (flat_map inside (take (i + 1) blocks))
block_numbered inside pairs after old blocks i b small at before more =
    let so_far : List Feature = flat_map inside (take i blocks) in
    let long : length pairs ≡ length old + length so_far = numbered_long pairs old so_far before in
    more ∙ ap (λ n. pairs ++ numbered n (inside b)) long ∙ ap (λ ps. ps ++ numbered (length old + length so_far) (inside b)) before
    ∙ append_assoc old (numbered (length old) so_far) (numbered (length old + length so_far) (inside b))
    ∙ ap (λ ps. old ++ ps) (sym (ap (numbered (length old)) (laid_more inside blocks i b small at) ∙ numbered-append (length old) so_far (inside b)))

-- ---- what the table finds

-- the ids that are numbered are those of the features
others_numbered : (n id : ℕ) (features : List Feature) → AllByRecursion (λ q. nat_eq id q ≡ false) (ids_of features)
    → AllByRecursion (λ (p : ℕ × ℕ). nat_eq id p.0 ≡ false) (numbered n features)
others_numbered n id [] each = tt
others_numbered n id (f ∷ features) each = (each.0, others_numbered (suc n) id features each.1)

ids_numbered : (n id : ℕ) (features : List Feature) → AllByRecursion (λ (p : ℕ × ℕ). nat_eq id p.0 ≡ false) (numbered n features)
    → AllByRecursion (λ q. nat_eq id q ≡ false) (ids_of features)
ids_numbered n id [] each = tt
ids_numbered n id (f ∷ features) each = (each.0, ids_numbered (suc n) id features each.1)

-- the pair has the place of its id, counted from n
abbrev Tells : ℕ → List Feature → ℕ × ℕ → Type 0
Tells n features p = option_map (λ k. n + k) (place_of features p.0) ≡ Some p.1

one_on : (o : Option ℕ) (n : ℕ) → option_map (λ k. n + k) (option_map (λ k. k + 1) o) ≡ option_map (λ k. suc n + k) o
one_on None n = refl
one_on (Some k) n = ap Some (omega arith)

tell_later : (n : ℕ) (f : Feature) (features : List Feature) (pairs : List (ℕ × ℕ)) → AllByRecursion (λ (p : ℕ × ℕ). nat_eq f.id p.0 ≡ false) pairs
    → AllByRecursion (Tells (suc n) features) pairs → AllByRecursion (Tells n (f ∷ features)) pairs
tell_later n f features [] other each = tt
tell_later n f features (p ∷ pairs) other each = (
  ap (option_map (λ k. n + k)) (position-cons (λ g. nat_eq g.id p.0) f features ∙ ap (λ b. cond b (Some 0) (option_map (λ k. k + 1) (place_of features p.0))) other.0) ∙ one_on (place_of features p.0) n ∙ each.0,
  tell_later n f features pairs other.1 each.1,
)

own_id : (id : ℕ) → nat_eq id id ≡ true
own_id id = grind (arith, nat_tests)

all_told : (n : ℕ) (features : List Feature) → IsDistinct nat_eq (ids_of features) → AllByRecursion (Tells n features) (numbered n features)
all_told n [] distinct = tt
all_told n (f ∷ features) distinct = (
  ap (option_map (λ k. n + k)) (position-cons (λ g. nat_eq g.id f.id) f features ∙ ap (λ b. cond b (Some 0) (option_map (λ k. k + 1) (place_of features f.id))) (own_id f.id)) ∙ ap Some (omega arith),
  tell_later n f features (numbered (suc n) features)
      (others_numbered (suc n) f.id features (IsDistinct-head nat_eq f.id (ids_of features) distinct))
      (all_told (suc n) features (IsDistinct-tail nat_eq f.id (ids_of features) distinct)),
)

from_none : (o : Option ℕ) → option_map (λ k. 0 + k) o ≡ o
from_none None = refl
from_none (Some k) = ap Some (omega arith)

module _ (pairs : List (ℕ × ℕ)) (features : List Feature) (table : IsIdTable pairs features) (id : ℕ) where
  rise : IsNonDecreasingBy (λ p. ordering_index (nat_cmp p.0 id)) pairs
  rise = IsNonDecreasingBy-from_default (λ p. ordering_index (nat_cmp p.0 id)) pairs (0, 0) (λ i j before small.
      let up = table.rising i j (0, 0) before small in
      grind (arith, nat_tests))

  told_at : (at : ℕ) → at < length pairs → option_map (λ k. 0 + k) (place_of features (get_or pairs at (0, 0)).0) ≡ Some (get_or pairs at (0, 0)).1
  told_at at small =
      All-permutation (Tells 0 features) (numbered 0 features) pairs table.all (All-from_recursion (Tells 0 features) (numbered 0 features) (all_told 0 features table.distinct)) at (0, 0) small

  pub found_at : (at : ℕ) → at < length pairs → IsBinarySearchResult (λ q. nat_cmp q.0 id) pairs (Ok at) → Some (get_or pairs at (0, 0)).1 ≡ place_of features id
  found_at at small result =
      let same : (get_or pairs at (0, 0)).0 ≡ id = ranked _ id _ (sym (result (0, 0))) in
      sym (sym (from_none (place_of features id)) ∙ ap (λ n. option_map (λ k. 0 + k) (place_of features n)) (sym same) ∙ told_at at small)

  pub found_none : (at : ℕ) → IsBinarySearchResult (λ q. nat_cmp q.0 id) pairs (Err at) → None ≡ place_of features id
  found_none at result =
      let other : All (λ (p : ℕ × ℕ). nat_eq id p.0 ≡ false) pairs = λ k d small. elim (cases_lt k at) [
        | inl low ↦ below id (get_or pairs k d).0 (ranked _ id _ (sym ((result rise).0 k d (omega arith) low)))
        | inr high ↦ above id (get_or pairs k d).0 (ranked _ id _ (sym ((result rise).1 k d high small)))
      ] in
      sym (no_place features id (ids_numbered 0 id features (recursion_from_All (λ (p : ℕ × ℕ). nat_eq id p.0 ≡ false) (numbered 0 features)
      (All-permutation (λ (p : ℕ × ℕ). nat_eq id p.0 ≡ false) pairs (numbered 0 features) (IsPermutation-sym (numbered 0 features) pairs table.all) other))))
    where
      below : (a b : ℕ) → b < a → nat_eq a b ≡ false
      below a b h = grind (arith, nat_tests)

      above : (a b : ℕ) → a < b → nat_eq a b ≡ false
      above a b h = grind (arith, nat_tests)
