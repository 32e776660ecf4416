-- Those so far are passed.
use Rattle.std.proofs.Common.{ℕ, ◌<◌, ◌≤◌, ◌-◌, length, get_or}
use Rattle.plain_shapes.specs.Features.{Feature}
use Rattle.data_versions.specs.inner.Sieves.{IsPassed}
use Rattle.data_versions.proofs.walk.next_wanted.Given as goal

abbrev pub invariant-loop-at : goal.invariant-loop-at
invariant-loop-at l = record {
  since : l.fn.at ≤ l.at;
  passed : (k : ℕ) (d : Feature) → l.fn.at ≤ k → k < l.at → IsPassed l.wanted (get_or l.here k d);
}

abbrev pub decreases-loop-at : goal.decreases-loop-at
decreases-loop-at l = length l.here - l.at
