-- An edited layer stands for each layer so far.
use Rattle.std.proofs.Common.{◌≡◌, take}
use Rattle.data_versions.specs.Shared.{shared_layers}
use Rattle.data_versions.proofs.edited.EditedLayer.all.Given as goal

abbrev pub invariant-loop-shared : goal.invariant-loop-shared
invariant-loop-shared l = l.edited_layers.items ≡ shared_layers (take l.shared-index l.layers)
