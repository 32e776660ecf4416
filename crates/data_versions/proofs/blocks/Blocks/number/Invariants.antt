-- The features of the blocks so far are numbered.
use Rattle.std.proofs.Common.{◌≡◌, ◌++◌, length, take}
use Rattle.std.specs.List.{flat_map}
use Rattle.data_versions.specs.inner.Ids.{numbered}
use Rattle.data_versions.proofs.blocks.Blocks.number.Given as goal

abbrev pub invariant-loop-block : goal.invariant-loop-block
invariant-loop-block g l = l.pairs.items ≡ l.initial.pairs.items ++ numbered (length l.initial.pairs.items) (flat_map g.B.Block.features (take l.block-index l.block-items))
