use Rattle.std.proofs.Common.{arith}
use Rattle.raster_core.proofs.Corners.{run_start, run_more, run_end}
use Rattle.raster_core.proofs.columns.cross_run.Goals as goal

pub loop-j-init : goal.loop-j-init
loop-j-init c = record { from = omega arith; rows = run_start c.args.w c.args.run c.args.places.now.items }

pub loop-j-preserved : goal.loop-j-preserved
loop-j-preserved c = record {
  from = omega (arith, c.loop-j.invariant.from);
  rows = run_more c.args.w c.args.run _ _ _ _ c.requires.column c.requires.rows c.loop-j.invariant.from c.loop-j-test.true c.loop-j.invariant.rows c.in_ok-push.ensures.items;
}

pub returns : goal.returns
returns c = run_end c.args.w c.args.run _ _ _ c.loop-j-test.false c.loop-j.invariant.rows
