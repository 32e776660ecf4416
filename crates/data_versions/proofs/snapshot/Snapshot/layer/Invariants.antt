-- No layer so far has the name.
use Rattle.std.proofs.Common.{◌≡◌, drop}
use Rattle.plain_shapes.specs.Data.{features_named}
use Rattle.data_versions.specs.Shared.{shared_layers}
use Rattle.data_versions.proofs.snapshot.Snapshot.layer.Given as goal

abbrev pub invariant-loop-layer : goal.invariant-loop-layer
invariant-loop-layer l = features_named (shared_layers l.layer-items) l.name ≡ features_named (shared_layers (drop l.layer-index l.layer-items)) l.name
