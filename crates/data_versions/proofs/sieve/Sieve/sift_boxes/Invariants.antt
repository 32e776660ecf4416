-- Those so far are marked exactly where they have a part in common with the rectangle.
use Rattle.std.proofs.Common.{◌≡◌, ℕ, ◌<◌, true, false, length, get_or}
use Rattle.data_versions.specs.inner.Grids.{grid_meets}
use Rattle.data_versions.specs.inner.Sieves.{box_at}
use Rattle.data_versions.proofs.sieve.Sieve.sift_boxes.Given as goal

abbrev pub invariant-loop-k : goal.invariant-loop-k
invariant-loop-k l = record {
  long : length l.sifted ≡ 64;
  sifted : (j : ℕ) → j < l.k → get_or l.sifted j true ≡ false → grid_meets (box_at l.self j) l.wanted ≡ false;
}
