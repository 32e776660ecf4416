-- Weights: of the items of a list, which stand at places, and of the numbers below a bound.
use Rattle.std.proofs.Common.{◌≡◌, ℕ, zero, suc, ◌+◌, ◌<◌, ◌≤◌, ◌≢◌, ◌⊎◌, List, [], ◌∷◌, map, length, get_or, set, sum, sum_by, sym, refl, ap, ◌∙◌, subst, inl, inr, ⊎_elim, arith, cond, eqb, eq-eqb, ne_eqb}
use Rattle.std.proofs.lemmas.List.FromFn.{sum_by-map-range_with_len_more}
use Rattle.std.proofs.lemmas.List.Sums.{sum_by-cons, sum_by-set, get_or-le-sum_by, sum-map}
use mathlib.Core.Logic.{dite}
use native.Mathlib.Decide.{ℕ_discrete, dec_le}
use mathlib.Core.Option.{some, some-injective, some-ne-none}
use lib.ListN.{get_elem?}
use Rattle.atomic_table.proofs.Lists.{at_map, set_else}
use Rattle.turn_cell.specs.inner.Cell.{below}

-- a place at which an item at_place is inside the list, and reads as the item
at_place : {A : Type 0} (l : List A) (j : ℕ) (v : A) → get_elem? l j ≡ some v → (j < length l) × (get_or l j v ≡ v)
at_place [] j v at = absurd (some-ne-none v (sym at))
at_place (x ∷ xs) zero v at = (omega arith, some-injective x v at)
at_place (x ∷ xs) (suc j) v at = let behind = at_place xs j v at in (omega arith, behind.1)

-- an item weighs no more than all
pub one_within : {A : Type 0} (g : A → ℕ) (l : List A) (j : ℕ) (v : A) → get_elem? l j ≡ some v → g v ≤ sum_by g l
one_within g l j v at = let is = at_place l j v at in subst (λ x. g x ≤ sum_by g l) is.1 (get_or-le-sum_by g l j v is.0)

-- what at_place at a place is taken out and another put there
pub sum_changed : {A : Type 0} (g : A → ℕ) (l : List A) (j : ℕ) (v w : A) → get_elem? l j ≡ some v → sum_by g (set l j w) + g v ≡ sum_by g l + g w
sum_changed g l j v w at = let is = at_place l j v at in ap (λ x. sum_by g (set l j w) + g x) (sym is.1) ∙ sum_by-set g l j w v is.0

-- Items at two places weigh no more than all: in the list of the weights the first is made 0, and the second is still there.
pub two_within : {A : Type 0} (g : A → ℕ) (l : List A) (j k : ℕ) (v u : A) → k ≢ j → get_elem? l j ≡ some v → get_elem? l k ≡ some u → g v + g u ≤ sum_by g l
two_within g l j k v u apart at_j at_k =
    let weights : List ℕ = map g l in
    let without : sum (set weights j 0) + g v ≡ sum weights + 0 = sum_changed (λ n. n) weights j (g v) 0 (at_map g l j v at_j) in
    let left : g u ≤ sum (set weights j 0) = one_within (λ n. n) (set weights j 0) k (g u) (set_else weights j k 0 apart ∙ at_map g l k u at_k) in
    omega (arith, without, left, sum-map g l)

-- nothing weighs anything, or there is an item that does
weighs : {A : Type 0} (g : A → ℕ) (l : List A) → (sum_by g l ≡ 0) ⊎ ((j : ℕ) × (v : A) × (get_elem? l j ≡ some v) × (0 < g v))
weighs g [] = inl refl
weighs g (x ∷ xs) = dite (ℕ_discrete (g x) 0)
    (λ light. ⊎_elim (λ none. inl (omega (arith, sum_by-cons g x xs, none, light))) (λ t. inr (suc t.0, t.1, t.2, t.3)) (weighs g xs))
    (λ heavy. inr (0, x, refl, omega arith))

pub weightless : {A : Type 0} (g : A → ℕ) (l : List A) → ((j : ℕ) (v : A) → get_elem? l j ≡ some v → g v ≡ 0) → sum_by g l ≡ 0
weightless g l each = ⊎_elim (λ none. none) (λ t. let light = each t.0 t.1 t.2 in let heavy = t.3 in absurd (omega arith)) (weighs g l)

pub weighty : {A : Type 0} (g : A → ℕ) (l : List A) → 0 < sum_by g l → (j : ℕ) × (v : A) × (get_elem? l j ≡ some v) × (0 < g v)
weighty g l some_weight = ⊎_elim (λ none. absurd (omega arith)) (λ t. t) (weighs g l)

-- where each item weighs 1, all weigh as much as there are
pub sum-ones : {A : Type 0} (l : List A) → sum_by (λ _. 1) l ≡ length l
sum-ones [] = refl
sum-ones (x ∷ xs) = omega (arith, sum_by-cons (λ _. 1) x xs, sum-ones xs)

pub below_next : (f : ℕ → ℕ) (n : ℕ) → below f (n + 1) ≡ below f n + f n
below_next f n = sum_by-map-range_with_len_more (λ m. m) f 0 n n (omega arith)

pub below_suc : (f : ℕ → ℕ) (n : ℕ) → below f (suc n) ≡ below f n + f n
below_suc f n = let e : suc n ≡ n + 1 = omega arith in ap (below f) e ∙ below_next f n

pub below-each : (n : ℕ) → below (λ _. 1) n ≡ n
below-each zero = refl
below-each (suc n) = omega (arith, below_suc (λ _. 1) n, below-each n)

-- 1 at one number, and 0 elsewhere
abbrev pub only : ℕ → ℕ → ℕ
only k x = cond (eqb k x) 1 0

only-other : (k x : ℕ) → k ≢ x → only k x ≡ 0
only-other k x ne = ap (λ b. cond b 1 0) (ne_eqb k x ne)

pub only-same : (k : ℕ) → only k k ≡ 1
only-same k = ap (λ b. cond b 1 0) (eq-eqb k k refl)

pub only-is : (k x : ℕ) → 0 < only k x → x ≡ k
only-is k x weight = dite (ℕ_discrete k x) (λ e. sym e) (λ ne. let none = only-other k x ne in absurd (omega arith))

-- a number at or past the bound weighs nothing below it
pub only-past : (k n : ℕ) → n ≤ k → below (only k) n ≡ 0
only-past k zero le = refl
only-past k (suc n) le = omega (arith, below_suc (only k) n, only-past k n (omega arith), only-other k n (λ e. omega arith))

-- and one below it weighs 1: past its place nothing is added
pub only-below : (k n : ℕ) → k < n → below (only k) n ≡ 1
only-below k zero lt = absurd (omega arith)
only-below k (suc n) lt = below_suc (only k) n ∙ dite (ℕ_discrete k n)
    (λ last. let here : only k n ≡ 1 = ap (only k) (sym last) ∙ only-same k in omega (arith, only-past k n (omega arith)))
    (λ ne. omega (arith, only-below k n (omega arith), only-other k n ne))

pub only-once : (k n : ℕ) → below (only k) n ≤ 1
only-once k n = dite (dec_le n k) (λ out. omega (arith, only-past k n out)) (λ inside. omega (arith, only-below k n (omega arith)))

-- a number that weighs something below a bound is below it
pub only-inside : (k n : ℕ) → 1 ≤ below (only k) n → k < n
only-inside k n weight = dite (dec_le n k) (λ out. let none = only-past k n out in absurd (omega arith)) (λ inside. omega arith)
