-- The draws of a seed, one after another.
use Rattle.std.proofs.Common.{◌≡◌, ℕ, zero, suc, ◌+◌, ◌%◌, sym, ap, ◌∙◌, add-one}
use Rattle.rand_pcg.specs.Lcg.{Lcg, next, advance, started, increment_of}
use Rattle.rand_pcg.specs.Pcg.{multiplier_64, pcg32}
use Rattle.rand_pcg.proofs.LcgLemmas.{advance_zero, advance_more}
use Rattle.work_gen.specs.Draws.{generator_before, draw}

abbrev turn : Lcg → Lcg
turn g = next 64 multiplier_64 g

abbrev turns : ℕ → Lcg → Lcg
turns k g = advance 64 multiplier_64 k g

turn_last : (k : ℕ) (g : Lcg) → turn (turns k g) ≡ turns (k + 1) g
turn_last zero g = ap turn (advance_zero 64 multiplier_64 g) ∙ sym (advance_zero 64 multiplier_64 (turn g)) ∙ advance_more 64 multiplier_64 0 g
turn_last (suc n) g =
    let first : turns (suc n) g ≡ turns n (turn g) = ap (λ (k : ℕ). turns k g) (sym (add-one n)) ∙ sym (advance_more 64 multiplier_64 n g) in
    ap turn first ∙ turn_last n (turn g) ∙ advance_more 64 multiplier_64 (n + 1) g ∙ ap (λ (k : ℕ). turns (k + 1) g) (add-one n)

-- the generator after a draw is the one before the next
pub generator_next : (seed k : ℕ) (g h : Lcg) (word : ℕ) → g ≡ generator_before seed k → (word, h) ≡ pcg32 g → h ≡ generator_before seed (k + 1)
unfolding generator_before
generator_next seed k g h word is step =
    ap (λ (p : ℕ × Lcg). p.1) step ∙ ap turn is ∙ turn_last k (started 64 multiplier_64 seed (increment_of 64 54))

-- and the word is the draw
pub word_drawn : (seed k bound : ℕ) (g h : Lcg) (word : ℕ) → g ≡ generator_before seed k → (word, h) ≡ pcg32 g → word % bound ≡ draw seed k bound
unfolding draw
word_drawn seed k bound g h word is step = ap (λ (p : ℕ × Lcg). p.0 % bound) step ∙ ap (λ (x : Lcg). (pcg32 x).0 % bound) is
