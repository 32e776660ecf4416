-- Lists whose items were read one after another.
use Rattle.std.proofs.Common.{◌≡◌, ℕ, ◌+◌, ◌≤◌, ◌<◌, Bool, true, ◌&&◌, ltb, List, [], ◌∷◌, ◌++◌, length, refl, arith, length-append}
use Rattle.std.proofs.lemmas.Bool.{and_parts, and_from}
use Rattle.std.proofs.lemmas.Bool.Decides.{nat_tests}
use Rattle.farm_base.specs.Earlier.{each_after}

-- the first of two tests that each item passes
pub first_each : {A : Type 0} (p q : List A → A → Bool) (before xs : List A) → each_after (λ b x. p b x && q b x) before xs ≡ true → each_after p before xs ≡ true
first_each p q before [] h = refl
first_each p q before (x ∷ xs) h =
    let both = and_parts (p before x && q before x) (each_after (λ b x. p b x && q b x) (before ++ x ∷ []) xs) h in
    and_from (p before x) (each_after p (before ++ x ∷ []) xs) (and_parts (p before x) (q before x) both.0).0 (first_each p q (before ++ x ∷ []) xs both.1)

-- and the second
pub second_each : {A : Type 0} (p q : List A → A → Bool) (before xs : List A) → each_after (λ b x. p b x && q b x) before xs ≡ true → each_after q before xs ≡ true
second_each p q before [] h = refl
second_each p q before (x ∷ xs) h =
    let both = and_parts (p before x && q before x) (each_after (λ b x. p b x && q b x) (before ++ x ∷ []) xs) h in
    and_from (q before x) (each_after q (before ++ x ∷ []) xs) (and_parts (p before x) (q before x) both.0).1 (second_each p q (before ++ x ∷ []) xs both.1)

-- items of which each has its place below the limit
few_after : {A : Type 0} (limit : ℕ) (before xs : List A) → length before ≤ limit → each_after (λ b x. ltb (length b) limit) before xs ≡ true
    → length before + length xs ≤ limit
few_after limit before [] h e = omega arith
few_after limit before (x ∷ xs) h e =
    let both = and_parts (ltb (length before) limit) (each_after (λ b x. ltb (length b) limit) (before ++ x ∷ []) xs) e in
    let room : ltb (length before) limit ≡ true = both.0 in
    let low : length before < limit = grind (arith, nat_tests) in
    let more : length (before ++ x ∷ []) ≡ length before + 1 = length-append before (x ∷ []) in
    let rest : length (before ++ x ∷ []) + length xs ≤ limit = few_after limit (before ++ x ∷ []) xs (omega arith) both.1 in
    omega arith

pub few_each : {A : Type 0} (limit : ℕ) (xs : List A) → each_after (λ b x. ltb (length b) limit) [] xs ≡ true → length xs ≤ limit
few_each limit xs e = let all = few_after limit [] xs (omega arith) e in omega arith
