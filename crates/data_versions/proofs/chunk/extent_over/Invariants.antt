-- The extent holds the features so far.
use Rattle.std.proofs.Common.{take}
use Rattle.std.specs.Prelude.{All}
use Rattle.data_versions.specs.inner.Extents.{IsIn}
use Rattle.data_versions.proofs.chunk.extent_over.Given as goal

abbrev pub invariant-loop-feature : goal.invariant-loop-feature
invariant-loop-feature l = All (IsIn l.extent) (take l.feature-index l.features)
