-- How many bits a word has: as many as clean keys stand at a place.
use Rattle.std.proofs.Common.{◌≡◌, ℕ, zero, suc, ◌+◌, ◌*◌, ◌/◌, ◌^◌, ◌<◌, ◌≤◌, ◌==◌, nat_lt, Bool, true, false, ◌&&◌, ◌||◌, cond, List, add-one, refl, sym, ap, ◌∙◌, arith}
use Rattle.std.specs.Int.{bit_at}
use Rattle.std.specs.Prelude.{count_ones}
use Rattle.std.specs.Int.Count.{ones_step}
use Rattle.std.proofs.lemmas.Bool.{eqb-true}
use Rattle.std.proofs.lemmas.Bool.Decides.{nat_tests}
use Rattle.std.proofs.lemmas.Nat.{ones_le_self, pow-add}
use Rattle.std.proofs.lemmas.Nat.Bits.{bit_at_lowest, bit_at-suc, bit_at-lt}
use Rattle.std.proofs.Math.Bool.{or-false}
use Rattle.farm_history.specs.declared.keys.Key.{Key}
use Rattle.farm_history.specs.Plans.{same_key}
use Rattle.farm_history.proofs.Lists.{each-all}
use Rattle.expiry_lists.specs.Marks.{clean_marks}
use Rattle.expiry_lists.specs.inner.Nodes.{Node, place_of, bit_of, has_bit, at_bits, key_at, is_clean_at, shown_of}
use Rattle.expiry_lists.proofs.Dirtying.{clean_marks-agree, clean_marks-none, clean_marks-or}
use Rattle.expiry_lists.proofs.Finding.{Distinct, clean_marks-key}

-- so many of the lowest bits of a word are set
abbrev sum_below : ℕ → ℕ → ℕ
sum_below w zero = 0
sum_below w (suc i) = sum_below w i + bit_at w i

halves : (w i : ℕ) → sum_below w (suc i) ≡ bit_at w 0 + sum_below (w / 2) i
halves w zero = omega arith
halves w (suc i) = omega (arith, halves w i, bit_at-suc w i)

half_fits : (w i : ℕ) → w < 2 ^ suc i → w / 2 < 2 ^ i
half_fits w i small = let double : 2 ^ (i + 1) ≡ 2 ^ i * 2 ^ 1 = pow-add 2 i 1 in let same : 2 ^ suc i ≡ 2 ^ (i + 1) = ap (λ n. 2 ^ n) (sym (add-one i)) in omega (arith, small, double, same)

ones_sum : (i w : ℕ) → w < 2 ^ i → count_ones w ≡ sum_below w i
ones_sum zero w small = omega (arith, small, ones_le_self w)
ones_sum (suc i) w small = omega (arith, ones_step w, ones_sum i (w / 2) (half_fits w i small), halves w i, bit_at_lowest w)

-- the bits so far, and one bit
abbrev bits_below : Key → ℕ → ℕ → Key → Bool
bits_below place w i k = same_key place (place_of k) && (nat_lt (bit_of k) i && has_bit w (bit_of k))

abbrev bit_alone : Key → ℕ → ℕ → Key → Bool
bit_alone place w i k = same_key place (place_of k) && ((bit_of k == i) && has_bit w i)

pub one_key : (place : Key) (bit : ℕ) (k : Key) → bit < 64 → same_key (key_at place bit) k ≡ (same_key place (place_of k) && (bit_of k == bit))
one_key place bit k small = grind (arith, nat_tests)

bits_more : (w i : ℕ) (x : Bool) (n : ℕ) → ((x && (nat_lt n i && has_bit w n)) || (x && ((n == i) && has_bit w i))) ≡ (x && (nat_lt n (suc i) && has_bit w n))
bits_more w i false n = refl
bits_more w i true n = go (n == i) refl
  where
    go : (e : Bool) → (n == i) ≡ e → ((nat_lt n i && has_bit w n) || (e && has_bit w i)) ≡ (nat_lt n (suc i) && has_bit w n)
    go false other = let same : nat_lt n (suc i) ≡ nat_lt n i = grind (arith, nat_tests) in rw same (or-false (nat_lt n i && has_bit w n))
    go true own =
        let is : n ≡ i = grind (arith, nat_tests) in
        let past : nat_lt n i ≡ false = grind (arith, nat_tests) in
        let within : nat_lt n (suc i) ≡ true = grind (arith, nat_tests) in
        rw (past, within) (ap (has_bit w) (sym is))

bits_apart : (x y z : Bool) (n i : ℕ) → ((x && (nat_lt n i && y)) && (x && ((n == i) && z))) ≡ false
bits_apart x y z n i = grind (arith, nat_tests)

no_bits : (x : Bool) (n : ℕ) (z : Bool) → (x && (nat_lt n 0 && z)) ≡ false
no_bits x n z = grind (arith, nat_tests)

module _ (es : List (Key × Node)) (apart : Distinct es) (place : Key) (w : ℕ) (has : (b : ℕ) → b < 64 → has_bit w b ≡ true → is_clean_at es (key_at place b) ≡ true) where
  -- one bit is that of one clean key
  alone : (i : ℕ) → i < 64 → clean_marks (bit_alone place w i) (shown_of es) ≡ bit_at w i
  alone i low = go (has_bit w i) refl
    where
      none : (x y : Bool) → (x && (y && false)) ≡ false
      none x y = grind arith

      one : (x y : Bool) → (x && (y && true)) ≡ (x && y)
      one x y = grind arith

      go : (b : Bool) → has_bit w i ≡ b → clean_marks (bit_alone place w i) (shown_of es) ≡ bit_at w i
      go false gone =
          sym (clean_marks-none (bit_alone place w i) (shown_of es) (each-all _ (shown_of es) (λ s clean. ap (λ b. same_key place (place_of s.key) && ((bit_of s.key == i) && b)) gone ∙ none (same_key place (place_of s.key)) (bit_of s.key == i))))
          ∙ zero_bit (bit_at w i) (bit_at-lt w i) gone
        where
          zero_bit : (n : ℕ) → n < 2 → (n == 1) ≡ false → 0 ≡ n
          zero_bit n few not_one = grind (arith, nat_tests)
      go true here =
          clean_marks-agree (bit_alone place w i) (same_key (key_at place i)) (shown_of es) (each-all _ (shown_of es) (λ s clean.
          ap (λ b. same_key place (place_of s.key) && ((bit_of s.key == i) && b)) here ∙ (one (same_key place (place_of s.key)) (bit_of s.key == i) ∙ sym (one_key place i s.key low))))
          ∙ (clean_marks-key es apart (key_at place i) ∙ (ap (λ b. cond b 1 0) (has i low here) ∙ sym (eqb-true (bit_at w i) 1 here)))

  below : (i : ℕ) → i ≤ 64 → clean_marks (bits_below place w i) (shown_of es) ≡ sum_below w i
  below zero few = sym (clean_marks-none (bits_below place w 0) (shown_of es) (each-all _ (shown_of es) (λ s clean. no_bits (same_key place (place_of s.key)) (bit_of s.key) (has_bit w (bit_of s.key)))))
  below (suc i) few =
      sym (clean_marks-agree (λ k. bits_below place w i k || bit_alone place w i k) (bits_below place w (suc i)) (shown_of es) (each-all _ (shown_of es) (λ s clean. bits_more w i (same_key place (place_of s.key)) (bit_of s.key))))
      ∙ omega (
        arith,
        clean_marks-or (bits_below place w i) (bit_alone place w i) (λ k. bits_apart (same_key place (place_of k)) (has_bit w (bit_of k)) (has_bit w i) (bit_of k) i) (shown_of es),
        below i (omega (arith, few)),
        alone i (omega (arith, few)),
      )

  -- all bits are those of the clean keys at the place
  pub ones_counted : w < 2 ^ 64 → count_ones w ≡ clean_marks (at_bits place w) (shown_of es)
  ones_counted small =
      ones_sum 64 w small
      ∙ (sym (below 64 (omega arith)) ∙ clean_marks-agree (bits_below place w 64) (at_bits place w) (shown_of es) (each-all _ (shown_of es) (λ s clean. all (same_key place (place_of s.key)) s.key)))
    where
      all : (x : Bool) (k : Key) → (x && (nat_lt (bit_of k) 64 && has_bit w (bit_of k))) ≡ (x && has_bit w (bit_of k))
      all x k = let within : nat_lt (bit_of k) 64 ≡ true = grind (arith, nat_tests) in rw within refl
