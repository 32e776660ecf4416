use Rattle.raster_core.proofs.Corners.{remains_more, remains_end, turned_kept}
use Rattle.raster_core.proofs.Downward.{edges_step, edges_none}
use Rattle.raster_core.proofs.edges.cross_ring.Goals as goal

pub make_room-requires-clause-inside : goal.make_room-requires-clause-inside
make_room-requires-clause-inside c = c.in_ok-cross_edge.ensures.inside (c.loop-p.invariant.left.inside c.requires.inside)

pub loop-p-preserved : goal.loop-p-preserved
loop-p-preserved c = record {
  within = c.requires.points c.loop-p.p-index _ c.loop-p-test.true;
  left = remains_more _ _ _ _ _ _ _ _ (edges_step c.loop-p.before c.args.points.now c.loop-p.p-index _ c.loop-p-test.true) c.loop-p.invariant.left (turned_kept _ _ _ _ _ c.in_ok-cross_edge.ensures c.in_ok-make_room.ensures);
}

pub returns : goal.returns
returns c = remains_end c.args.w _ _ _ _ (edges_none c.loop-p.before c.args.points.now c.loop-p.p-index c.loop-p-test.false) c.loop-p.invariant.left
