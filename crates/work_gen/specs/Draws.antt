-- The draws of a seed: the words of the generator PCG32 (XSH RR 64/32) that is started from the
-- seed with the stream 54, in order, each taken modulo a bound.
use Rattle.std.specs.Prelude.{ℕ, ◌%◌}
use Rattle.rand_pcg.specs.Lcg.{Lcg, started, increment_of, advance}
use Rattle.rand_pcg.specs.Pcg.{multiplier_64, pcg32}

-- the generator of a seed before its draw of this number, counted from 0
unfoldable pub generator_before : ℕ → ℕ → Lcg
generator_before seed k =
    advance 64 multiplier_64 k (started 64 multiplier_64 seed (increment_of 64 54))

-- the draw of this number, below the bound
unfoldable pub draw : ℕ → ℕ → ℕ → ℕ
draw seed k bound = (pcg32 (generator_before seed k)).0 % bound

-- how far the draws of a seed have come
pub record Drawing : Type 0 where
  pub seed : ℕ
  pub made : ℕ
