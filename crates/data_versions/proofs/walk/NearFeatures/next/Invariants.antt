-- What was passed, and what is left of the walk.
use Rattle.std.proofs.Common.{◌≡◌, ◌≤◌, ◌-◌, ◌++◌, length, drop}
use Rattle.data_versions.specs.Near.{all_near}
use Rattle.data_versions.specs.inner.Sieves.{IsSifted}
use Rattle.data_versions.proofs.Walks.{IsLeft}
use Rattle.data_versions.proofs.walk.NearFeatures.next.Given as goal

abbrev pub invariant-loop-place : goal.invariant-loop-place
invariant-loop-place l = record {
  asked : l.fn.self.asked ≡ l.wanted.asked;
  left : IsLeft l.wanted.asked l.fn.self.left (all_near (drop l.at l.here ++ drop l.from l.segments) l.wanted.around);
  sifted : IsSifted l.wanted l.self-inside.sifted l.here;
  wanted : l.self-inside.wanted ≡ l.wanted;
  segments : l.self-inside.segments.now ≡ l.segments;
  within : l.from ≤ length l.segments;
  count : l.count ≡ length l.segments;
}

abbrev pub decreases-loop-place : goal.decreases-loop-place
decreases-loop-place l = l.count - l.from
