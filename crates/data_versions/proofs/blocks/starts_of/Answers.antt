use Rattle.data_versions.proofs.Laid.{starts_more}
use Rattle.data_versions.proofs.blocks.starts_of.Goals as goal

pub loop-block-preserved : goal.loop-block-preserved
loop-block-preserved g c =
    rw (c.in_ok-push.ensures.items, c.in-Some.ensures.1, c.len.ensures)
    (starts_more g.B.Block.features c.loop-block.starts.items c.loop-block.count c.args.blocks.now c.loop-block.block-index c.block-item.result c.loop-block-test.true c.block-item.is c.loop-block.invariant)
