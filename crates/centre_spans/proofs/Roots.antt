-- The numbers up to a root are those whose square is no more.
use Rattle.std.proofs.Common.{◌≡◌, ℕ, ◌+◌, ◌*◌, ◌<◌, ◌≤◌, sym, ◌∙◌, inl, inr, arith}
use Rattle.std.specs.Prelude.{nat_le}
use Rattle.std.proofs.Math.Nat.{mul-le-mul}
use Rattle.std.proofs.lemmas.Bool.{cases_lt, le-leb, lt-leb}

pub root_is : (r n d : ℕ) → r * r ≤ n → n < (r + 1) * (r + 1) → nat_le d r ≡ nat_le (d * d) n
root_is r n d low high = elim (cases_lt r d) [
  | inl p ↦ (let q : r + 1 ≤ d = omega arith in let k : n < d * d = omega (arith, mul-le-mul q q) in lt-leb d r p ∙ sym (lt-leb (d * d) n k))
  | inr p ↦ (let k : d * d ≤ n = omega (arith, mul-le-mul p p) in le-leb d r p ∙ sym (le-leb (d * d) n k))
]
