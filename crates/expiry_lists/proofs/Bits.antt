-- Bits of words: of two words joined or met, of one of which some are taken, and of a map's own.
use Rattle.std.proofs.Common.{◌≡◌, ◌≢◌, ℕ, ◌-◌, ◌^◌, ◌<◌, ◌≤◌, ◌==◌, min, max, cond, Bool, true, false, ◌&&◌, ◌||◌, not, refl, sym, ap, ap₂, ◌∙◌, inl, inr, ◌⊎◌, arith}
use Rattle.std.specs.Int.{bit_at, bit_not, w64}
use Rattle.std.specs.Prelude.{bit_and, bit_or}
use Rattle.std.proofs.lemmas.Bool.{eqb-true, eq-eqb, cases_eq, cases_lt, false_from_ne_true}
use Rattle.std.proofs.lemmas.Bool.Decides.{nat_tests}
use Rattle.std.proofs.lemmas.Nat.Bits.{bit_at_and, bit_at_or, bit_at_not, bit_at-lt, bit_at-zero, bit_at_above, bit_at_ones, bit_at-pow_same, bit_at-pow_other}
use Rattle.std.proofs.lemmas.Nat.{pow_below}
use Rattle.expiry_lists.specs.inner.Nodes.{has_bit}

-- a bit of two words at once, and of one of them
pub and_bit : (a b i : ℕ) → has_bit (bit_and a b) i ≡ (has_bit a i && has_bit b i)
and_bit a b i = ap (λ n. n == 1) (bit_at_and a b i) ∙ go (bit_at a i) (bit_at b i) (bit_at-lt a i) (bit_at-lt b i)
  where
    go : (x y : ℕ) → x < 2 → y < 2 → (min x y == 1) ≡ ((x == 1) && (y == 1))
    go x y few less = grind (arith, nat_tests)

pub or_bit : (a b i : ℕ) → has_bit (bit_or a b) i ≡ (has_bit a i || has_bit b i)
or_bit a b i = ap (λ n. n == 1) (bit_at_or a b i) ∙ go (bit_at a i) (bit_at b i) (bit_at-lt a i) (bit_at-lt b i)
  where
    go : (x y : ℕ) → x < 2 → y < 2 → (max x y == 1) ≡ ((x == 1) || (y == 1))
    go x y few less = grind (arith, nat_tests)

-- of a word without the bits of another
pub less_bit : (a m i : ℕ) → m < 2 ^ 64 → i < 64 → has_bit (bit_and a (bit_not w64 m)) i ≡ (has_bit a i && not (has_bit m i))
less_bit a m i small low = and_bit a (bit_not w64 m) i ∙ ap (λ b. has_bit a i && b) (ap (λ n. n == 1) (bit_at_not w64 m i small low) ∙ go (bit_at m i) (bit_at-lt m i))
  where
    go : (x : ℕ) → x < 2 → (1 - x == 1) ≡ not (x == 1)
    go x few = grind (arith, nat_tests)

-- no word has a bit past the last
pub few_bits : (a i : ℕ) → a < 2 ^ 64 → has_bit a i ≡ true → i < 64
few_bits a i small has = go (cases_lt i 64)
  where
    go : (i < 64) ⊎ (64 ≤ i) → i < 64
    go (inl low) = low
    go (inr high) =
        let gone : bit_at a i ≡ 0 = bit_at_above a 64 i small high in
        let here : bit_at a i ≡ 1 = eqb-true (bit_at a i) 1 has in
        absurd (omega (arith, gone, here))

-- the word of no bits, of all, and of one
pub no_bit : (i : ℕ) → has_bit 0 i ≡ false
no_bit i = ap (λ n. n == 1) (bit_at-zero i)

pub all_bits : (i : ℕ) → i < 64 → has_bit (2 ^ 64 - 1) i ≡ true
all_bits i low = eq-eqb (bit_at (2 ^ 64 - 1) i) 1 (bit_at_ones 64 i low)

pub power_bit : (i b : ℕ) → has_bit (2 ^ i) b ≡ (b == i)
power_bit i b = go (cases_eq b i)
  where
    go : (b ≡ i) ⊎ (b ≢ i) → has_bit (2 ^ i) b ≡ (b == i)
    go (inl same) = ap (λ j. has_bit (2 ^ i) j) same ∙ (eq-eqb (bit_at (2 ^ i) i) 1 (bit_at-pow_same i) ∙ sym (eq-eqb b i same))
    go (inr other) = ap (λ n. n == 1) (bit_at-pow_other i b other) ∙ sym (false_from_ne_true (b == i) (λ h. absurd (other (eqb-true b i h))))

-- a word with one bit set or cleared
pub bit_set : (word i : ℕ) (set : Bool) (b : ℕ) → i < 64 → b < 64 → has_bit (cond set (bit_or word (2 ^ i)) (bit_and word (bit_not w64 (2 ^ i)))) b ≡ cond (b == i) set (has_bit word b)
bit_set word i true b few low = or_bit word (2 ^ i) b ∙ (ap (λ x. has_bit word b || x) (power_bit i b) ∙ go (has_bit word b) (b == i))
  where
    go : (x y : Bool) → (x || y) ≡ cond y true x
    go true true = refl
    go true false = refl
    go false true = refl
    go false false = refl
bit_set word i false b few low = less_bit word (2 ^ i) b (pow_below i 64 few) low ∙ (ap (λ x. has_bit word b && not x) (power_bit i b) ∙ go (has_bit word b) (b == i))
  where
    go : (x y : Bool) → (x && not y) ≡ cond y false x
    go true true = refl
    go true false = refl
    go false true = refl
    go false false = refl

-- two words without a bit in common, as the test of the meet says it
pub none_met : (a b i : ℕ) → bit_and a b ≡ 0 → has_bit b i ≡ true → has_bit a i ≡ false
none_met a b i apart there = go (has_bit a i) refl
  where
    go : (x : Bool) → has_bit a i ≡ x → has_bit a i ≡ false
    go false is = is
    go true is =
        let both : has_bit (bit_and a b) i ≡ true = and_bit a b i ∙ ap₂ (λ x y. x && y) is there in
        let never : true ≡ false = sym both ∙ (ap (λ n. has_bit n i) apart ∙ no_bit i) in
        cc

-- a word that is met whole has all bits of it
pub whole_met : (a b i : ℕ) → bit_and a b ≡ b → has_bit b i ≡ true → has_bit a i ≡ true
whole_met a b i whole there = go (has_bit a i) refl
  where
    go : (x : Bool) → has_bit a i ≡ x → has_bit a i ≡ true
    go true is = is
    go false is =
        let both : has_bit (bit_and a b) i ≡ false = and_bit a b i ∙ ap (λ x. x && has_bit b i) is in
        let never : true ≡ false = sym there ∙ (ap (λ n. has_bit n i) (sym whole) ∙ both) in
        cc

-- the same, as the walks ask
pub none_live : (w m : ℕ) → not (bit_and w m == 0) ≡ false → (b : ℕ) → has_bit m b ≡ true → has_bit w b ≡ false
none_live w m still b there = none_met w m b (eqb-true (bit_and w m) 0 (go (bit_and w m == 0) still)) there
  where
    go : (x : Bool) → not x ≡ false → x ≡ true
    go true is = refl
    go false is = cc
