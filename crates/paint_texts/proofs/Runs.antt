-- Runs of digits.
use Rattle.std.specs.Prelude.{◌≡◌, ◌<◌, ◌≤◌, ◌^◌, ◌*◌, ◌-◌, ℕ, ◌+◌, suc, Bool, true, false, cond, ◌&&◌, List, [], ◌∷◌, ◌++◌, length, drop, take, get_or, refl}
use Rattle.std.specs.List.{list_all, prefix_len}
use Rattle.std.proofs.Common.{◌∙◌, ap, sym, arith, add-one}
use Rattle.std.proofs.lemmas.List.{drop_more, drop_all}
use Rattle.std.proofs.lemmas.Bool.Decides.{nat_tests}
use Rattle.std.proofs.lemmas.List.Folds.{list_all_at}
use Rattle.std.proofs.Math.Nat.{pow-suc, pow-le-pow_right, mul-le-mul}
use Rattle.std.proofs.lemmas.Bool.{false≢true}
use Rattle.farm_base.specs.Digits.{is_digit, number_after}

-- a list behind one more element
take_one : {A : Type 0} (x : A) (xs : List A) (n : ℕ) → take (1 + n) (x ∷ xs) ≡ x ∷ take n xs
take_one x xs n = rw (one-add n) refl
  where
    one-add : (m : ℕ) → 1 + m ≡ suc m
    one-add m = omega arith

-- the run at the front passes the test
pub front_passes : {A : Type 0} (p : A → Bool) (xs : List A) → list_all p (take (prefix_len p xs) xs) ≡ true
front_passes p [] = refl
front_passes p (x ∷ xs) = go (p x) refl (front_passes p xs)
  where
    go : (b : Bool) → p x ≡ b → list_all p (take (prefix_len p xs) xs) ≡ true → list_all p (take (cond b (1 + prefix_len p xs) 0) (x ∷ xs)) ≡ true
    go true e ih = ap (list_all p) (take_one x xs (prefix_len p xs)) ∙ rw (e, ih) refl
    go false e ih = refl

pub front_digits : (xs : List ℕ) (k : ℕ) → k ≡ prefix_len is_digit xs → list_all is_digit (take k xs) ≡ true
front_digits xs k e = ap (λ n. list_all is_digit (take n xs)) e ∙ front_passes is_digit xs

-- the run at the front of a list that passes, and of what follows where that does not begin so
pub front_spelled : {A : Type 0} (p : A → Bool) (xs rest : List A) → list_all p xs ≡ true → prefix_len p rest ≡ 0 → prefix_len p (xs ++ rest) ≡ length xs
front_spelled p [] rest h z = z
front_spelled p (x ∷ xs) rest h z = go (p x) refl h (λ k. front_spelled p xs rest k z)
  where
    go : (b : Bool) → p x ≡ b → (b && list_all p xs) ≡ true → (list_all p xs ≡ true → prefix_len p (xs ++ rest) ≡ length xs)
        → cond b (1 + prefix_len p (xs ++ rest)) 0 ≡ suc (length xs)
    go true e k ih = let same = ih k in omega (arith, same)
    go false e k ih = cc

-- one more digit
pub number_more : (ds : List ℕ) (k d n m all : ℕ) → d ≡ get_or ds k 0 → m ≡ 10 * n + (d - 48) → k < length ds
    → number_after n (drop k ds) ≡ all → number_after m (drop (k + 1) ds) ≡ all
number_more ds k d n m all e f h t =
    ap (λ x. number_after x (drop (k + 1) ds)) (f ∙ ap (λ x. 10 * n + (x - 48)) e)
    ∙ sym (ap (number_after n) (drop_more ds k 0 h)) ∙ t

pub number_ends : (ds : List ℕ) (k n all : ℕ) → length ds ≤ k → number_after n (drop k ds) ≡ all → n ≡ all
number_ends ds k n all h t = sym (ap (number_after n) (drop_all k ds h)) ∙ t

-- a number of fewer than 12 digits, and one more
pub number_grows : (k n d : ℕ) → k < 12 → n < 10 ^ k → d ≤ 9 → (10 * n + d < 10 ^ (k + 1)) × (10 * n + d < 10 ^ 12)
number_grows k n d h b f =
    let more : 10 ^ (k + 1) ≡ 10 ^ k * 10 = rw (add-one k) (pow-suc 10 k) in
    let few : 10 ^ k ≤ 10 ^ 11 = pow-le-pow_right {n = 10} (omega arith) {i = k} {j = 11} (omega arith) in
    (omega arith, omega arith)

-- each byte of a run of digits is one
pub digit_at : (ds : List ℕ) (k d : ℕ) → list_all is_digit ds ≡ true → k < length ds → d ≡ get_or ds k 0 → (48 ≤ d) × (d ≤ 57)
digit_at ds k d h k_fits e = go (is_digit (get_or ds k 0)) refl
  where
    within : (x : ℕ) → is_digit x ≡ true → (48 ≤ x) × (x ≤ 57)
    within x t = (grind (arith, nat_tests), grind (arith, nat_tests))

    go : (b : Bool) → is_digit (get_or ds k 0) ≡ b → (48 ≤ d) × (d ≤ 57)
    go true t = within d (ap is_digit e ∙ t)
    go false t = absurd (false≢true (sym (list_all_at is_digit ds k 0 k_fits t) ∙ h))

-- what up to 12 digits and a place value of at most 1,000 come to
pub product_fits : (a b n p : ℕ) → n < 10 ^ a → a ≤ 12 → p ≡ 10 ^ b → b ≤ 3 → n * p ≤ 10 ^ 15
product_fits a b n p n_fits a_fits p_is b_fits =
    let first : 10 ^ a ≤ 10 ^ 12 = pow-le-pow_right {n = 10} (omega arith) {i = a} {j = 12} a_fits in
    let second : 10 ^ b ≤ 10 ^ 3 = pow-le-pow_right {n = 10} (omega arith) {i = b} {j = 3} b_fits in
    mul-le-mul {n₁ = n} {m₁ = p} {n₂ = 10 ^ 12} {m₂ = 10 ^ 3} (omega arith) (omega arith)
