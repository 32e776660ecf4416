-- Quotients, rounded up and down, against products.
use Rattle.std.proofs.Common.{◌≡◌, ℕ, ◌+◌, ◌-◌, ◌*◌, ◌/◌, ◌%◌, ◌<◌, ◌≤◌, min, ap, sym, ◌∙◌, inl, inr, arith}
use Rattle.std.specs.Prelude.{nat_le}
use Rattle.std.proofs.Math.Nat.{mul-le-mul_left, mul-le-mul_right, div-add-mod, mod-lt}
use Rattle.std.proofs.lemmas.Bool.{cases_lt, le-leb, lt-leb, leb-true, leb-false}

-- a factor that is not zero is cancelled
pub cancel : (m n k : ℕ) → 1 ≤ k → m * k ≤ n * k → m ≤ n
cancel m n k some h = elim (cases_lt n m) [
  | inl p ↦ (let q : n + 1 ≤ m = omega arith in absurd (omega (arith, mul-le-mul_right k q)))
  | inr p ↦ p
]

-- the quotient rounded up is at most x exactly where the number is at most h times x
pub up_le : (n h x : ℕ) → 0 < h → nat_le (n / h + min 1 (n % h)) x ≡ nat_le n (h * x)
up_le n h x some = elim (cases_lt x (n / h + min 1 (n % h))) [
  | inl p ↦ lt-leb (n / h + min 1 (n % h)) x p ∙ sym (lt-leb n (h * x) (above p))
  | inr p ↦ le-leb (n / h + min 1 (n % h)) x p ∙ sym (le-leb n (h * x) (within p))
]
  where
    above : x < n / h + min 1 (n % h) → h * x < n
    above p = elim (cases_lt x (n / h)) [
      | inl q ↦ (let q' : x + 1 ≤ n / h = omega arith in omega (arith, div-add-mod n h, mul-le-mul_left h q'))
      | inr q ↦ (let q' : x ≤ n / h = omega arith in omega (arith, div-add-mod n h, mul-le-mul_left h q'))
    ]

    within : n / h + min 1 (n % h) ≤ x → n ≤ h * x
    within p = elim (cases_lt (n / h) x) [
      | inl q ↦ (let q' : n / h + 1 ≤ x = omega arith in omega (arith, div-add-mod n h, mod-lt n some, mul-le-mul_left h q'))
      | inr q ↦ (let q' : n / h ≤ x = omega arith in omega (arith, div-add-mod n h, mul-le-mul_left h q'))
    ]

-- x is at most the quotient rounded down exactly where h times x is at most the number
pub down_le : (n h x : ℕ) → 0 < h → nat_le x (n / h) ≡ nat_le (x * h) n
down_le n h x some = elim (cases_lt (n / h) x) [
  | inl p ↦ (let q : n / h + 1 ≤ x = omega arith in lt-leb x (n / h) p ∙ sym (lt-leb (x * h) n (omega (arith, mul-le-mul_right h q, div-add-mod n h, mod-lt n some))))
  | inr p ↦ le-leb x (n / h) p ∙ sym (le-leb (x * h) n (omega (arith, mul-le-mul_right h p, div-add-mod n h)))
]

-- a number whose product with the divisor is no more than n, by less than the divisor
pub down_is : (n h q : ℕ) → 1 ≤ h → q * h ≤ n → n - q * h < h → q ≡ n / h
down_is n h q some low near =
    let at_most = leb-true q (n / h) (down_le n h q some ∙ le-leb (q * h) n low) in
    let over : n < (q + 1) * h = omega arith in
    let at_least = leb-false (q + 1) (n / h) (down_le n h (q + 1) some ∙ lt-leb ((q + 1) * h) n over) in
    omega arith

-- one whose product is no less than n, by less than the divisor
pub up_is : (n h q : ℕ) → 1 ≤ h → n ≤ q * h → q * h - n < h → q ≡ n / h + min 1 (n % h)
up_is n h q some low near = elim (cases_lt 0 q) [
  | inl k ↦ (
      let d : ℕ = q - 1 in
      let e : q ≡ d + 1 = omega arith in
      let product = ap (λ t. t * h) e in
      let under : h * d < n = omega (arith, product) in
      let at_least = leb-false (n / h + min 1 (n % h)) d (up_le n h d some ∙ lt-leb n (h * d) under) in
      omega (arith, most, at_least))
  | inr k ↦ omega (arith, most)
]
  where
    most : n / h + min 1 (n % h) ≤ q
    most = leb-true (n / h + min 1 (n % h)) q (up_le n h q some ∙ le-leb n (h * q) (omega arith))

-- a number lies past so many whole steps from m exactly where it lies past v, if that many and one more step reach v first
pub past_steps : (v m step i q : ℕ) → 1 ≤ step → m < v → q ≡ (v - m - 1) / step → nat_le (q + 1) i ≡ nat_le v (m + i * step)
past_steps v m step i q some lt is =
    let whole = div-add-mod (v - m - 1) step in
    let rest = mod-lt (v - m - 1) some in
    let same = ap (λ k. k * step) is in
    elim (cases_lt q i) [
      | inl h ↦ (let k : q + 1 ≤ i = omega arith in le-leb (q + 1) i k ∙ sym (le-leb v (m + i * step) (omega (arith, whole, rest, same, mul-le-mul_right step k))))
      | inr h ↦ (lt-leb (q + 1) i (omega arith) ∙ sym (lt-leb v (m + i * step) (omega (arith, whole, same, mul-le-mul_right step h))))
    ]
