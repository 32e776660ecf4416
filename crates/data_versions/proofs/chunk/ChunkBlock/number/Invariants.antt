-- The features so far are numbered.
use Rattle.std.proofs.Common.{◌≡◌, ◌++◌, length, take}
use Rattle.data_versions.specs.inner.Ids.{numbered}
use Rattle.data_versions.proofs.chunk.ChunkBlock.number.Given as goal

abbrev pub invariant-loop-feature : goal.invariant-loop-feature
invariant-loop-feature l = l.pairs.items ≡ l.initial.pairs.items ++ numbered (length l.initial.pairs.items) (take l.feature-index l.feature-items)
