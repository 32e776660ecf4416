-- A changed run by its places, and two that adjoin.
use Rattle.std.proofs.Common.{◌≡◌, ℕ, suc, zero, ◌+◌, ◌<◌, ◌≤◌, List, [], ◌∷◌, ◌++◌, length, take, drop, map, get_or, set, refl, ap, sym, ◌∙◌, inl, inr, arith}
use Rattle.std.proofs.lemmas.Bool.{cases_lt}
use Rattle.std.proofs.lemmas.List.{same_lists}
use Rattle.plain_image.specs.Runs.{run_changed}
use Rattle.plain_image.proofs.Runs.{run_length}

first_in : {X : Type 0} (f : X → X) (count k : ℕ) (xs : List X) (d : X) → k < count → k < length xs
    → get_or (map f (take count xs) ++ drop count xs) k d ≡ f (get_or xs k d)
first_in f zero k xs d h l = absurd (omega arith)
first_in f (suc n) k [] d h l = absurd (omega arith)
first_in f (suc n) zero (x ∷ xs) d h l = refl
first_in f (suc n) (suc k) (x ∷ xs) d h l = first_in f n k xs d (omega arith) (omega arith)

first_out : {X : Type 0} (f : X → X) (count k : ℕ) (xs : List X) (d : X) → count ≤ k → get_or (map f (take count xs) ++ drop count xs) k d ≡ get_or xs k d
first_out f zero k xs d h = refl
first_out f (suc n) k [] d h = refl
first_out f (suc n) zero (x ∷ xs) d h = absurd (omega arith)
first_out f (suc n) (suc k) (x ∷ xs) d h = first_out f n k xs d (omega arith)

-- an element of the run
pub run_at : {X : Type 0} (f : X → X) (start count k : ℕ) (xs : List X) (d : X) → start ≤ k → k < start + count → k < length xs
    → get_or (run_changed f start count xs) k d ≡ f (get_or xs k d)
run_at f zero count k xs d low high l = first_in f count k xs d (omega arith) l
run_at f (suc n) count k [] d low high l = absurd (omega arith)
run_at f (suc n) count zero (x ∷ xs) d low high l = absurd (omega arith)
run_at f (suc n) count (suc k) (x ∷ xs) d low high l = run_at f n count k xs d (omega arith) (omega arith) (omega arith)

-- one before it
pub run_before : {X : Type 0} (f : X → X) (start count k : ℕ) (xs : List X) (d : X) → k < start → get_or (run_changed f start count xs) k d ≡ get_or xs k d
run_before f zero count k xs d h = absurd (omega arith)
run_before f (suc n) zero k [] d h = refl
run_before f (suc n) (suc m) k [] d h = refl
run_before f (suc n) count zero (x ∷ xs) d h = refl
run_before f (suc n) count (suc k) (x ∷ xs) d h = run_before f n count k xs d (omega arith)

-- one behind it
pub run_behind : {X : Type 0} (f : X → X) (start count k : ℕ) (xs : List X) (d : X) → start + count ≤ k → get_or (run_changed f start count xs) k d ≡ get_or xs k d
run_behind f zero count k xs d h = first_out f count k xs d (omega arith)
run_behind f (suc n) zero k [] d h = refl
run_behind f (suc n) (suc m) k [] d h = refl
run_behind f (suc n) count zero (x ∷ xs) d h = absurd (omega arith)
run_behind f (suc n) count (suc k) (x ∷ xs) d h = run_behind f n count k xs d (omega arith)

-- two runs that adjoin are the longer one
pub runs_adjoin : {X : Type 0} (f : X → X) (start a b : ℕ) (xs : List X) → run_changed f (start + a) b (run_changed f start a xs) ≡ run_changed f start (a + b) xs
runs_adjoin {X} f start a b xs =
    let once : List X = run_changed f start a xs in
    let kept : length once ≡ length xs = run_length f start a xs in
    let kept_twice : length (run_changed f (start + a) b once) ≡ length xs = run_length f (start + a) b once ∙ kept in
    same_lists (run_changed f (start + a) b once) (run_changed f start (a + b) xs) (kept_twice ∙ sym (run_length f start (a + b) xs))
    (λ k d lt. let l : k < length xs = omega (arith, lt, kept_twice) in
    elim (cases_lt k start) [
      | inl p ↦ run_before f (start + a) b k once d (omega arith) ∙ run_before f start a k xs d p ∙ sym (run_before f start (a + b) k xs d p)
      | inr p ↦ elim (cases_lt k (start + a)) [
        | inl q ↦ run_before f (start + a) b k once d q ∙ run_at f start a k xs d p q l ∙ sym (run_at f start (a + b) k xs d p (omega arith) l)
        | inr q ↦ elim (cases_lt k (start + a + b)) [
          | inl r ↦ run_at f (start + a) b k once d q r (omega (arith, l, kept)) ∙ ap f (run_behind f start a k xs d q) ∙ sym (run_at f start (a + b) k xs d p (omega arith) l)
          | inr r ↦ run_behind f (start + a) b k once d r ∙ run_behind f start a k xs d q ∙ sym (run_behind f start (a + b) k xs d (omega arith))
        ]
      ]
    ])

-- a run of one element
pub run_of_one : {X : Type 0} (f : X → X) (k : ℕ) (xs : List X) (d : X) → run_changed f k 1 xs ≡ set xs k (f (get_or xs k d))
run_of_one f zero [] d = refl
run_of_one f zero (x ∷ xs) d = refl
run_of_one f (suc k) [] d = refl
run_of_one f (suc k) (x ∷ xs) d = ap (λ ys. x ∷ ys) (run_of_one f k xs d)
