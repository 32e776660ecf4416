-- The features so far are in the builder.
use Rattle.std.proofs.Common.{◌≡◌}
use Rattle.data_versions.specs.inner.Building.{built}
use Rattle.data_versions.proofs.snapshot.segments_of.Given as goal

abbrev pub invariant-loop-feature : goal.invariant-loop-feature
invariant-loop-feature l = built l.builder ≡ l.yielded
