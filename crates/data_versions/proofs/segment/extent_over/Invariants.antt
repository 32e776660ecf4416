-- The extent holds the features of the chunks so far.
use Rattle.std.proofs.Common.{take}
use Rattle.std.specs.Prelude.{All}
use Rattle.data_versions.specs.inner.Extents.{IsIn}
use Rattle.data_versions.specs.inner.Parts.{laid}
use Rattle.data_versions.proofs.segment.extent_over.Given as goal

abbrev pub invariant-loop-chunk : goal.invariant-loop-chunk
invariant-loop-chunk l = All (IsIn l.extent) (laid (take l.chunk-index l.chunks))
