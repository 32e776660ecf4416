-- What is shared so far are the layers so far.
use Rattle.std.proofs.Common.{◌≡◌}
use Rattle.data_versions.specs.Shared.{shared_layers}
use Rattle.data_versions.proofs.snapshot.Snapshot.first.Given as goal

abbrev pub invariant-loop-layer : goal.invariant-loop-layer
invariant-loop-layer l = shared_layers l.shared.items ≡ l.yielded
