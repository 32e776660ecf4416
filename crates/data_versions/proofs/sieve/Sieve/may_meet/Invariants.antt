-- None so far has a part in common with the rectangle, if none was found.
use Rattle.std.proofs.Common.{◌≡◌, ℕ, ◌<◌, false}
use Rattle.data_versions.specs.inner.Grids.{grid_meets}
use Rattle.data_versions.specs.inner.Sieves.{box_at}
use Rattle.data_versions.proofs.sieve.Sieve.may_meet.Given as goal

abbrev pub invariant-loop-k : goal.invariant-loop-k
invariant-loop-k l = l.found ≡ false → (j : ℕ) → j < l.k → grid_meets (box_at l.self j) l.wanted ≡ false
