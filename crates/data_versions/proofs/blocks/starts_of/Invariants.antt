-- The starts of the blocks so far.
use Rattle.std.proofs.Common.{take}
use Rattle.data_versions.specs.inner.Parts.{IsLaid}
use Rattle.data_versions.proofs.blocks.starts_of.Given as goal

abbrev pub invariant-loop-block : goal.invariant-loop-block
invariant-loop-block g l = IsLaid g.B.Block.features l.starts.items l.count (take l.block-index l.blocks)
