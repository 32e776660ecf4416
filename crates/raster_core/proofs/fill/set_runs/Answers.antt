use Rattle.std.proofs.Common.{sym, ◌∙◌}
use Rattle.raster_core.proofs.Filling.{filled_more, filled_all}
use Rattle.raster_core.proofs.fill.set_runs.Goals as goal

pub loop-k-preserved : goal.loop-k-preserved
loop-k-preserved c = record {
  filled = λ member is.
      let f = c.loop-k.invariant.filled member is in
      let run = c.run_at-run.ensures in
      let next = run.is member f.n is f.done in
      filled_more c.args.w member c.args.places.now c.loop-k.k c.run_at-run.result c.args.mask.now c.loop-k.mask c.set_run.new.mask
      c.requires.window run.row run.start run.end f next
      (c.set_run.ensures.reached member c.args.w c.args.mask.now (sym (c.loop-k.invariant.cols ∙ c.requires.cols)) (sym (c.loop-k.invariant.rows ∙ c.requires.rows)) next.within);
  cols = c.set_run.ensures.cols ∙ c.loop-k.invariant.cols;
  rows = c.set_run.ensures.rows ∙ c.loop-k.invariant.rows;
}

pub returns-clause-filled : goal.returns-clause-filled
returns-clause-filled c member is =
    filled_all c.args.w member c.args.places.now c.loop-k.k c.args.mask.now c.loop-k.mask c.requires.window is c.loop-k-test.false (c.loop-k.invariant.filled member is)
