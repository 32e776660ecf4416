use Rattle.std.proofs.Common.{◌+◌, length, take, ap, arith}
use Rattle.std.specs.List.{flat_map}
use Rattle.data_versions.proofs.Ids.{numbered_long, block_numbered}
use Rattle.data_versions.proofs.Laid.{length_more, laid_within}
use Rattle.data_versions.proofs.blocks.Blocks.number.Goals as goal

pub number-requires : goal.number-requires
number-requires g c =
    let inside = g.B.Block.features in
    let blocks = c.blocks-block-items.result.now in
    let i = c.loop-block.block-index in
    omega (
      arith,
      c.requires,
      ap length c.blocks-block-items.ensures,
      numbered_long c.loop-block.pairs.items c.args.pairs.now.items (flat_map inside (take i blocks)) c.loop-block.invariant,
      length_more inside blocks i c.block-item.result c.loop-block-test.true c.block-item.is,
      laid_within inside blocks (i + 1),
    )

pub loop-block-preserved : goal.loop-block-preserved
loop-block-preserved g c =
    block_numbered g.B.Block.features c.loop-block.pairs.items c.number.new.pairs.items c.args.pairs.now.items c.blocks-block-items.result.now c.loop-block.block-index
    c.block-item.result c.loop-block-test.true c.block-item.is c.loop-block.invariant c.in_ok-number.ensures
