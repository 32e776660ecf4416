-- Stretches by the two tests at their ends.
use Rattle.std.proofs.Common.{◌≡◌, ℕ, ◌+◌, ◌-◌, ◌*◌, ◌/◌, ◌%◌, ◌<◌, ◌≤◌, min, max, true, false, ◌&&◌, ap, sym, ◌∙◌, inl, inr, arith}
use Rattle.std.specs.Prelude.{nat_le, nat_lt}
use Rattle.std.proofs.Math.Bool.{and-false, and-true}
use Rattle.std.proofs.lemmas.Bool.{cases_lt, le-leb, lt-leb, lt-ltb, le-ltb}
use Rattle.centre_spans.specs.declared.shapes.Stretch.{Stretch}
use Rattle.centre_spans.specs.declared.stretches.Growing.{Growing}
use Rattle.centre_spans.specs.Stretches.{in_stretch}
use Rattle.centre_spans.proofs.Quotients.{up_le, down_le}

-- a place in the stretch, before it, and past it
pub inside : (s : Stretch) (v : ℕ) → s.start ≤ v → v < s.end → in_stretch s v ≡ true
inside s v low high = ap (λ t. t && nat_lt v s.end) (le-leb s.start v low) ∙ lt-ltb v s.end high

pub before : (s : Stretch) (v : ℕ) → v < s.start → in_stretch s v ≡ false
before s v out = ap (λ t. t && nat_lt v s.end) (lt-leb s.start v out)

pub past : (s : Stretch) (v : ℕ) → s.end ≤ v → in_stretch s v ≡ false
past s v out = ap (λ t. nat_le s.start v && t) (le-ltb v s.end out) ∙ and-false (nat_le s.start v)

pub around_is : (p r v : ℕ) (s : Stretch) → s.start ≡ p - r → s.end ≡ p + r + 1 → in_stretch s v ≡ nat_le (v - p + (p - v)) r
around_is p r v s e f = elim (cases_lt v s.start) [
  | inl h ↦ before s v h ∙ sym (lt-leb (v - p + (p - v)) r (omega arith))
  | inr h ↦ (elim (cases_lt v s.end) [
    | inl k ↦ inside s v h k ∙ sym (le-leb (v - p + (p - v)) r (omega arith))
    | inr k ↦ past s v k ∙ sym (lt-leb (v - p + (p - v)) r (omega arith))
  ])
]

pub narrowed_is : (p q s : Stretch) (v : ℕ) → s.start ≡ max p.start q.start → s.end ≡ min p.end q.end → in_stretch s v ≡ (in_stretch p v && in_stretch q v)
narrowed_is p q s v e f = elim (cases_lt v p.start) [
  | inl h ↦ before s v (omega arith) ∙ sym (ap (λ t. t && in_stretch q v) (before p v h))
  | inr h ↦ (elim (cases_lt v p.end) [
    | inl k ↦ second h k ∙ sym (ap (λ t. t && in_stretch q v) (inside p v h k))
    | inr k ↦ past s v (omega arith) ∙ sym (ap (λ t. t && in_stretch q v) (past p v k))
  ])
]
  where
    second : p.start ≤ v → v < p.end → in_stretch s v ≡ in_stretch q v
    second h k = elim (cases_lt v q.start) [
      | inl a ↦ before s v (omega arith) ∙ sym (before q v a)
      | inr a ↦ (elim (cases_lt v q.end) [
        | inl b ↦ inside s v (omega arith) (omega arith) ∙ sym (inside q v a b)
        | inr b ↦ past s v (omega arith) ∙ sym (past q v b)
      ])
    ]

-- where the second number grows faster: from a place on
pub rising_is : (p q : Growing) (v h : ℕ) (s : Stretch) → p.slope < q.slope → h ≡ q.slope - p.slope
    → s.start ≡ (p.rest - q.rest) / h + min 1 ((p.rest - q.rest) % h) → v < s.end
    → in_stretch s v ≡ nat_le (v * p.slope + p.rest) (v * q.slope + q.rest)
rising_is p q v h s less h_is start_is high =
    let n : ℕ = p.rest - q.rest in
    let split : q.slope ≡ p.slope + h = omega arith in
    let e = ap (λ k. v * k) split in
    ap (λ t. nat_le s.start v && t) (lt-ltb v s.end high) ∙ and-true (nat_le s.start v)
    ∙ ap (λ k. nat_le k v) start_is ∙ up_le n h v (omega arith)
    ∙ elim (cases_lt (h * v) n) [
      | inl k ↦ lt-leb n (h * v) k ∙ sym (lt-leb (v * p.slope + p.rest) (v * q.slope + q.rest) (omega (arith, e)))
      | inr k ↦ le-leb n (h * v) k ∙ sym (le-leb (v * p.slope + p.rest) (v * q.slope + q.rest) (omega (arith, e)))
    ]

-- where it grows slower: up to a place
pub falling_is : (p q : Growing) (v h : ℕ) (s : Stretch) → q.slope < p.slope → p.rest ≤ q.rest → h ≡ p.slope - q.slope
    → s.start ≡ 0 → s.end ≡ (q.rest - p.rest) / h + 1
    → in_stretch s v ≡ nat_le (v * p.slope + p.rest) (v * q.slope + q.rest)
falling_is p q v h s less some h_is start_is end_is =
    let n : ℕ = q.rest - p.rest in
    let split : p.slope ≡ q.slope + h = omega arith in
    let e = ap (λ k. v * k) split in
    let begins : s.start ≤ v = omega arith in
    ap (λ t. t && nat_lt v s.end) (le-leb s.start v begins)
    ∙ elim (cases_lt (n / h) v) [
      | inl k ↦ le-ltb v s.end (omega arith) ∙ sym (lt-leb v (n / h) k)
      | inr k ↦ lt-ltb v s.end (omega arith) ∙ sym (le-leb v (n / h) k)
    ]
    ∙ down_le n h v (omega arith)
    ∙ elim (cases_lt n (v * h)) [
      | inl k ↦ lt-leb (v * h) n k ∙ sym (lt-leb (v * p.slope + p.rest) (v * q.slope + q.rest) (omega (arith, e)))
      | inr k ↦ le-leb (v * h) n k ∙ sym (le-leb (v * p.slope + p.rest) (v * q.slope + q.rest) (omega (arith, e)))
    ]
