-- A finder stands for each layer so far.
use Rattle.std.proofs.Common.{◌≡◌, take}
use Rattle.data_versions.specs.Shared.{shared_layers}
use Rattle.data_versions.proofs.snapshot.Snapshot.finders.Given as goal

abbrev pub invariant-loop-layer : goal.invariant-loop-layer
invariant-loop-layer l = l.finders.items ≡ shared_layers (take l.layer-index l.shared)
