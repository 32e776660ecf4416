-- How long a history is, by the numbers that have entries in it.
use Rattle.std.proofs.Common.{◌≡◌, ℕ, zero, suc, ◌+◌, ◌≤◌, List, [], ◌∷◌, length, sym, refl, ap, ◌∙◌, subst, arith, cond, eq-eqb, ne_eqb}
use mathlib.Core.Logic.{dite}
use native.Mathlib.Decide.{ℕ_discrete, dec_le}
use Rattle.std.proofs.lemmas.List.{nil_from_length}
use Rattle.turn_cell.specs.Turns.{by, NoneAbove}
use Rattle.turn_cell.specs.inner.Cell.{below}
use Rattle.turn_cell.specs.SeatStates.{Made, SeatState, first_of, split_left, joining, Knows}
use Rattle.turn_cell.proofs.Sums.{only, only-same, only-below, below_suc}

below-sum : (f g h : ℕ → ℕ) → ((k : ℕ) → f k ≡ g k + h k) → (n : ℕ) → below f n ≡ below g n + below h n
below-sum f g h each zero = refl
below-sum f g h each (suc n) = omega (arith, below_suc f n, below_suc g n, below_suc h n, below-sum f g h each n, each n)

below-none : (n : ℕ) → below (λ _. 0) n ≡ 0
below-none zero = refl
below-none (suc n) = omega (arith, below_suc (λ _. 0) n, below-none n)

module _ {E : Type 0} where
  one_more : (x : ℕ × E) (xs : List (ℕ × E)) (k : ℕ) → length (by k (x ∷ xs)) ≡ only x.0 k + length (by k xs)
  one_more x xs k = dite (ℕ_discrete x.0 k)
      (λ e. let yes = eq-eqb x.0 k e in ap (λ b. length (cond b (x ∷ by k xs) (by k xs))) yes ∙ (let one : only x.0 k ≡ 1 = ap (λ b. cond b 1 0) yes in omega arith))
      (λ ne. let no = ne_eqb x.0 k ne in ap (λ b. length (cond b (x ∷ by k xs) (by k xs))) no ∙ (let none : only x.0 k ≡ 0 = ap (λ b. cond b 1 0) no in omega arith))

  -- a history without entries of numbers above n is as long as the entries of the numbers up to n are together
  pub length-numbers : (n : ℕ) (log : List (ℕ × E)) → NoneAbove n log → length log ≡ below (λ k. length (by k log)) (suc n)
  length-numbers n [] none = sym (below-none (suc n))
  length-numbers n (x ∷ xs) none =
      let inside : x.0 ≤ n = dite (dec_le x.0 n) (λ le. le)
      (λ out. let gone = none x.0 (omega arith) in absurd (omega (arith, ap length gone, one_more x xs x.0, only-same x.0))) in
      let later : NoneAbove n xs = λ k out. nil_from_length (by k xs) (let gone = none k out in omega (arith, ap length gone, one_more x xs k)) in
      omega (arith, length-numbers n xs later, below-sum (λ k. length (by k (x ∷ xs))) (only x.0) (λ k. length (by k xs)) (one_more x xs) (suc n), only-below x.0 (suc n) (omega arith))

-- two seats were split from a first one, which took no turn, and were joined into it
pub seen_by_two : {T E : Type 0} (made : Made T) (one two v : SeatState T E) → v ≡ joining (joining (split_left (split_left (first_of made))) one) two → Knows v → one.number ≡ 1 → two.number ≡ 2
    → length v.seen ≡ length one.mine + length two.mine
seen_by_two {T = T} {E = E} made one two v is known n₁ n₂ =
    let w : SeatState T E = joining (joining (split_left (split_left (first_of made))) one) two in
    let k = subst (λ (h : SeatState T E). Knows h) is known in
    let log : List (ℕ × E) = w.seen in
    let none : by 0 log ≡ [] = k.0 in
    let first : by one.number log ≡ one.mine = k.1 refl 0 (one.number, one.mine) refl in
    let second : by two.number log ≡ two.mine = k.1 refl 1 (two.number, two.mine) refl in
    let first' : by 1 log ≡ one.mine = ap (λ n. by n log) (sym n₁) ∙ first in
    let second' : by 2 log ≡ two.mine = ap (λ n. by n log) (sym n₂) ∙ second in
    let long : length log ≡ 0 + length (by 0 log) + length (by 1 log) + length (by 2 log) = length-numbers 2 log (k.2 refl) in
    ap (λ (h : SeatState T E). length h.seen) is ∙ omega (arith, ap length none, ap length first', ap length second')
