-- Marks as bits.
use Rattle.std.proofs.Common.{◌≡◌, ℕ, zero, suc, ◌+◌, ◌*◌, ◌/◌, ◌%◌, ◌^◌, ◌<◌, ◌≤◌, List, ap, sym, ◌∙◌, subst, get_or, length, take, inl, inr, arith}
use Rattle.std.specs.Int.{bit_at, w64}
use Rattle.std.specs.Int.RustNames.{bit_or}
use lib.Bits.{bit_and}
use Rattle.std.proofs.lemmas.List.Elements.{All-more, All-weaker}
use Rattle.std.proofs.lemmas.Nat.{one_shl}
use Rattle.std.proofs.lemmas.Bool.{cases_eq}
use Rattle.std.proofs.lemmas.Nat.Bits.{bit_at_or, bit_at_and, bit_at-lt, bit_at-zero, bit_at-suc, bit_at_lowest, bit_at_set_same, bit_at-pow_same}
use Rattle.farm_base.specs.declared.Attr.{Attr}
use Rattle.attribute_marks.specs.Marks.{mark_of, HasMarks, Shares}

-- a mark that is set stays set
pub kept : (marks more mark : ℕ) → bit_at marks mark ≡ 1 → bit_at (bit_or marks more) mark ≡ 1
kept marks more mark h = omega (arith, bit_at_or marks more mark, bit_at-lt more mark)

pub added : (marks more mark : ℕ) → bit_at more mark ≡ 1 → bit_at (bit_or marks more) mark ≡ 1
added marks more mark h = omega (arith, bit_at_or marks more mark, bit_at-lt marks mark)

-- one mark alone
pub one_mark : (mark : ℕ) → mark < 64 → bit_at (1 * 2 ^ mark % 2 ^ 64) mark ≡ 1
one_mark mark few = ap (λ n. bit_at n mark) (one_shl mark 64 few) ∙ bit_at-pow_same mark

-- the marks of one attribute more
pub marked_more : (marks : ℕ) (attrs : List Attr) (i mark : ℕ) (a : Attr) → i < length attrs → a ≡ get_or attrs i a → mark ≡ mark_of a.name a.value → mark < 64
    → HasMarks marks (take i attrs) → HasMarks (bit_or marks (1 * 2 ^ mark % 2 ^ 64)) (take (i + 1) attrs)
marked_more marks attrs i mark a within here is few before =
    let now : ℕ = bit_or marks (1 * 2 ^ mark % 2 ^ 64) in
    let new : bit_at now (mark_of a.name a.value) ≡ 1 = ap (bit_at now) (sym is) ∙ bit_at_set_same w64 marks mark few in
    All-more (λ (a : Attr). bit_at now (mark_of a.name a.value) ≡ 1) attrs i a within
    (All-weaker (λ (a : Attr). bit_at marks (mark_of a.name a.value) ≡ 1) (λ (a : Attr). bit_at now (mark_of a.name a.value) ≡ 1) (λ a h. kept marks (1 * 2 ^ mark % 2 ^ 64) (mark_of a.name a.value) h) (take i attrs) before)
    (subst (λ (x : Attr). bit_at now (mark_of x.name x.value) ≡ 1) here new)

-- what shares a mark has a bit in common
pub none_shared : (marks asked : ℕ) → bit_and marks asked ≡ 0 → Shares marks asked → ⊥
none_shared marks asked none s =
    let both : bit_at (bit_and marks asked) s.mark ≡ 1 = omega (arith, bit_at_and marks asked s.mark, s.there, s.is_asked) in
    let zero : bit_at (bit_and marks asked) s.mark ≡ 0 = ap (λ n. bit_at n s.mark) none ∙ bit_at-zero s.mark in
    omega (arith, both, zero)

-- a number that is not 0 has a bit
some_bit : (k n : ℕ) → n ≤ k → (n ≡ 0 → ⊥) → (i : ℕ) × (bit_at n i ≡ 1)
some_bit zero n few some = absurd (some (omega (arith, few)))
some_bit (suc k) n few some = elim (cases_eq (n % 2) 1) [
  | inl odd ↦ (0, bit_at_lowest n ∙ odd)
  | inr even ↦ (let rest = some_bit k (n / 2) (omega (arith, few)) (λ none. some (omega (arith, none, even))) in (suc rest.0, bit_at-suc n rest.0 ∙ rest.1))
]

-- a bit in common is a mark that both have
pub one_shared : (marks asked : ℕ) → (bit_and marks asked ≡ 0 → ⊥) → Shares marks asked
one_shared marks asked some =
    let bit = some_bit (bit_and marks asked) (bit_and marks asked) (omega arith) some in record {
      mark = bit.0;
      there = omega (arith, bit_at_and marks asked bit.0, bit.1, bit_at-lt marks bit.0);
      is_asked = omega (arith, bit_at_and marks asked bit.0, bit.1, bit_at-lt asked bit.0);
    }
