use Rattle.raster_core.proofs.Corners.{remains_more, remains_end}
use Rattle.raster_core.proofs.Downward.{rings_step, rings_none}
use Rattle.raster_core.proofs.edges.cross_rings.Goals as goal

pub cross_path-requires-clause-inside : goal.cross_path-requires-clause-inside
cross_path-requires-clause-inside c = c.loop-ring.invariant.inside c.requires.inside

pub loop-ring-preserved : goal.loop-ring-preserved
loop-ring-preserved c = remains_more _ _ _ _ _ _ _ _ (rings_step c.args.rings.now c.loop-ring.ring-index c.ring-item.result c.loop-ring-test.true c.ring-item.is) c.loop-ring.invariant c.in_ok-cross_path.ensures

pub returns : goal.returns
returns c = remains_end c.args.w _ _ _ _ (rings_none c.args.rings.now c.loop-ring.ring-index c.loop-ring-test.false) c.loop-ring.invariant
