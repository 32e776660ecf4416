use Rattle.raster_core.proofs.Corners.{runs_start, runs_more, runs_end}
use Rattle.raster_core.proofs.columns.cross_columns.Goals as goal

pub loop-k-init : goal.loop-k-init
loop-k-init c = runs_start c.args.w c.args.corners.now c.args.places.now.items

pub loop-k-preserved : goal.loop-k-preserved
loop-k-preserved c = runs_more c.args.w c.args.corners.now c.loop-k.k c.column_run-next.result.1 c.column_run-next.result.0 _ _ _ c.column_run-next.ensures.is c.loop-k.invariant c.in_ok-cross_column.ensures

pub returns : goal.returns
returns c = runs_end c.args.w c.args.corners.now _ _ _ c.loop-k-test.false c.loop-k.invariant
