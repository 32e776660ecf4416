-- The features so far are seen.
use Rattle.std.proofs.Common.{ℕ, ◌<◌, get_or}
use Rattle.plain_shapes.specs.Features.{Feature}
use Rattle.data_versions.specs.inner.Sieves.{IsLong, IsSeen}
use Rattle.data_versions.proofs.sieve.Sieve.of.Given as goal

abbrev pub invariant-loop-k : goal.invariant-loop-k
invariant-loop-k l = record {
  long : IsLong l.sieve;
  each : (j : ℕ) (d : Feature) → j < l.k → IsSeen l.sieve j (get_or l.features j d);
}
