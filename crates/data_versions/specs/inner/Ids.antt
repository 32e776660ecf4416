-- A table of the ids of a layer.
use Rattle.std.specs.Prelude.{ℕ, suc, nat_eq, List, [], ◌∷◌}
use Rattle.std.specs.List.{IsDistinct}
use Rattle.std.specs.List.Sorted.{IsNonDecreasingBy, IsPermutation}
use Rattle.plain_shapes.specs.Features.{Feature}
use Rattle.plain_shapes.specs.Data.{ids_of}

-- the ids of the features, each with its place, of which the first has the number n
abbrev pub numbered : ℕ → List Feature → List (ℕ × ℕ)
numbered n [] = []
numbered n (f ∷ features) = (f.id, n) ∷ numbered (suc n) features

-- the distinct ids of the features in rising order, each with its place
pub record IsIdTable (pairs : List (ℕ × ℕ)) (features : List Feature) : Type 0 where
  pub all : IsPermutation (numbered 0 features) pairs
  pub rising : IsNonDecreasingBy (λ p. p.0) pairs
  pub distinct : IsDistinct nat_eq (ids_of features)
