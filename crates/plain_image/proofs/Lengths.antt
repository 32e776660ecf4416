-- How long the texts of tiles are.
use Rattle.std.proofs.Common.{◌≡◌, ℕ, ◌*◌, ◌^◌, ◌<◌, ◌≤◌, arith, length, refl, sym, ap, ◌∙◌}
use Rattle.std.specs.Fmt.{decimal, digits}
use Rattle.std.specs.Prelude.{nat_lt, if◌then◌else◌}
use Rattle.std.proofs.lemmas.Bool.{lt-ltb, le-ltb}
use Rattle.plain_world.specs.World.{IsTileSize}
use Rattle.plain_world.proofs.Windows.{by_sizes}

-- the digits of a tile's side
digits_of_side : (size : ℕ) → IsTileSize size → length (decimal size) ≡ (if nat_lt size 100 then 2 else 3)
unfolding digits
digits_of_side = by_sizes (λ n. length (decimal n) ≡ (if nat_lt n 100 then 2 else 3)) refl refl refl refl refl refl

-- a tile has few pixels
pub few_pixels : (size : ℕ) → IsTileSize size → size * size ≤ 2 ^ 18
few_pixels = by_sizes (λ n. n * n ≤ 2 ^ 18) (omega arith) (omega arith) (omega arith) (omega arith) (omega arith) (omega arith)

pub two_digits : (size : ℕ) → IsTileSize size → size < 100 → 2 ≡ length (decimal size)
two_digits size sized h = sym (digits_of_side size sized ∙ ap (λ t. if t then 2 else 3) (lt-ltb size 100 h))

pub three_digits : (size : ℕ) → IsTileSize size → 100 ≤ size → 3 ≡ length (decimal size)
three_digits size sized h = sym (digits_of_side size sized ∙ ap (λ t. if t then 2 else 3) (le-ltb size 100 h))
