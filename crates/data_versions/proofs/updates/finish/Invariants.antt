-- The layers so far are shared, and valid.
use Rattle.std.proofs.Common.{◌≡◌, take}
use Rattle.std.specs.Prelude.{All}
use Rattle.plain_shapes.specs.Data.{IsLayer}
use Rattle.data_versions.specs.Shared.{shared_layers}
use Rattle.data_versions.proofs.updates.finish.Given as goal

abbrev pub invariant-loop-edited : goal.invariant-loop-edited
invariant-loop-edited l = record { same : shared_layers l.shared.items ≡ take l.edited-index l.edited_layers; each : All IsLayer (take l.edited-index l.edited_layers) }
