-- One more element of a run changed.
use Rattle.std.proofs.Common.{◌≡◌, ℕ, suc, zero, ◌+◌, ◌-◌, ◌≤◌, Bool, true, List, [], ◌∷◌, ◌++◌, length, take, drop, set, map, refl, ap, ◌∙◌, sym, arith, Some}
use Rattle.std.specs.Prelude.{slice_get}
use Rattle.plain_image.specs.Runs.{run_changed}

first_more : {X : Type 0} (f : X → X) (count : ℕ) (xs : List X) (d : X) → slice_get (map f (take count xs) ++ drop count xs) count ≡ Some d
    → map f (take (suc count) xs) ++ drop (suc count) xs ≡ set (map f (take count xs) ++ drop count xs) count (f d)
first_more f zero [] d h = absurd (cc)
first_more f (suc n) [] d h = absurd (cc)
first_more f zero (x ∷ xs) d h = let e : x ≡ d = cc in ap (λ y. f y ∷ xs) e
first_more f (suc n) (x ∷ xs) d h = ap (λ ys. f x ∷ ys) (first_more f n xs d h)

more : {X : Type 0} (f : X → X) (start count : ℕ) (xs : List X) (d : X) → slice_get (run_changed f start count xs) (start + count) ≡ Some d
    → run_changed f start (suc count) xs ≡ set (run_changed f start count xs) (start + count) (f d)
more f zero count xs d h =
    let e : 0 + count ≡ count = omega arith in
    first_more f count xs d (ap (λ k. slice_get (run_changed f 0 count xs) k) (sym e) ∙ h)
    ∙ ap (λ k. set (run_changed f 0 count xs) k (f d)) (sym e)
more f (suc n) zero [] d h = absurd (cc)
more f (suc n) (suc count) [] d h = absurd (cc)
more f (suc n) count (x ∷ xs) d h =
    let e : suc n + count ≡ suc (n + count) = omega arith in
    ap (λ ys. x ∷ ys) (more f n count xs d (ap (λ k. slice_get (run_changed f (suc n) count (x ∷ xs)) k) (sym e) ∙ h))
    ∙ ap (λ k. set (run_changed f (suc n) count (x ∷ xs)) k (f d)) (sym e)

-- the run up to the place k, and that place as well
pub run_more : {X : Type 0} (f : X → X) (start k : ℕ) (xs now : List X) (d : X) → start ≤ k → now ≡ run_changed f start (k - start) xs → slice_get now k ≡ Some d
    → set now k (f d) ≡ run_changed f start (k + 1 - start) xs
run_more f start k xs now d from so_far at =
    let e : k ≡ start + (k - start) = omega arith in
    let n : suc (k - start) ≡ k + 1 - start = omega arith in
    ap (λ ys. set ys k (f d)) so_far
    ∙ ap (λ i. set (run_changed f start (k - start) xs) i (f d)) e
    ∙ sym (more f start (k - start) xs d (ap (λ i. slice_get (run_changed f start (k - start) xs) i) (sym e) ∙ ap (λ ys. slice_get ys k) (sym so_far) ∙ at))
    ∙ ap (λ i. run_changed f start i xs) n

none : {X : Type 0} (f : X → X) (start : ℕ) (xs : List X) → xs ≡ run_changed f start 0 xs
none f zero xs = refl
none f (suc n) [] = refl
none f (suc n) (x ∷ xs) = ap (λ ys. x ∷ ys) (none f n xs)

-- no place yet
pub run_none : {X : Type 0} (f : X → X) (start : ℕ) (xs : List X) → xs ≡ run_changed f start (start - start) xs
run_none f start xs = none f start xs ∙ ap (λ i. run_changed f start i xs) (let e : 0 ≡ start - start = omega arith in e)

pub run_length : {X : Type 0} (f : X → X) (start count : ℕ) (xs : List X) → length (run_changed f start count xs) ≡ length xs
run_length f zero zero xs = refl
run_length f zero (suc n) [] = refl
run_length f zero (suc n) (x ∷ xs) = ap suc (run_length f zero n xs)
run_length f (suc s) zero [] = refl
run_length f (suc s) (suc n) [] = refl
run_length f (suc s) count (x ∷ xs) = ap suc (run_length f s count xs)

-- one more bit of a run set, whether the list has it or not
pub set_more : (start count : ℕ) (bits : List Bool)
    → run_changed (λ _. true) start (suc count) bits ≡ set (run_changed (λ _. true) start count bits) (start + count) true
set_more zero zero [] = refl
set_more zero zero (b ∷ bits) = refl
set_more zero (suc n) [] = refl
set_more zero (suc n) (b ∷ bits) =
    let e : 0 + suc n ≡ suc (0 + n) = omega arith in
    ap (λ bs. true ∷ bs) (set_more zero n bits) ∙ ap (λ k. set (run_changed (λ _. true) 0 (suc n) (b ∷ bits)) k true) (sym e)
set_more (suc n) zero [] = refl
set_more (suc n) (suc count) [] = refl
set_more (suc n) count (b ∷ bits) =
    let e : suc n + count ≡ suc (n + count) = omega arith in
    ap (λ bs. b ∷ bs) (set_more n count bits) ∙ ap (λ k. set (run_changed (λ _. true) (suc n) count (b ∷ bits)) k true) (sym e)
