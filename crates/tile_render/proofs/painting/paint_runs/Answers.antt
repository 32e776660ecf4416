use Rattle.std.proofs.Common.{◌≡◌, ◌∙◌, ap, sym, subst, arith}
use Rattle.raster_core.specs.inner.Crossings.{Crossings, Done, IsNext}
use Rattle.raster_core.proofs.Filling.{done_none, done_all}
use Rattle.tile_render.specs.inner.Regions.{region_window}
use Rattle.tile_render.proofs.Runs.{painted_none, painted_more, painted_all}
use Rattle.tile_render.proofs.painting.paint_runs.Goals as goal

pub loop-k-init : goal.loop-k-init
loop-k-init c = record {
  painted = λ member between.
      painted_none c.args.w c.args.region member c.args.paint.colour c.args.paint.opacity _ c.args.image.now (done_none (region_window c.args.w c.args.region) c.args.places.now);
  cols = c.requires.cols;
  rows = c.requires.rows;
}

pub loop-k-preserved : goal.loop-k-preserved
loop-k-preserved c = record {
  painted = λ member between.
      let f = c.loop-k.invariant.painted member between in
      let run = c.run_at-run.ensures in
      let near = region_window c.args.w c.args.region in
      let is : c.region_window-near.result ≡ near = c.region_window-near.ensures.value in
      let next : IsNext near member c.args.places.now f.n c.run_at-run.result =
      subst (λ v. IsNext v member c.args.places.now f.n c.run_at-run.result) is (run.is member f.n
      (subst (λ v. Crossings v member c.args.places.now) (sym is) between.crossings)
      (subst (λ v. Done v c.args.places.now c.loop-k.k f.n) (sym is) f.done)) in
      painted_more c.args.w c.args.region member c.args.paint.colour c.args.paint.opacity _ (Done near c.args.places.now c.run_at-run.result.next)
      c.run_at-run.result.row c.run_at-run.result.start c.run_at-run.result.end c.args.image.now c.loop-k.image c.blend_run.new.self
      c.requires.region (omega (arith, run.row, ap (λ v. v.rows) is)) run.start (omega (arith, run.end, ap (λ v. v.cols) is)) c.loop-k.invariant.cols between.holds f
      (record { begins = next.from; before = next.before; within = next.within; past = next.past }) c.blend_run.ensures;
  cols = ap (λ m. m.cols) c.blend_run.ensures ∙ c.loop-k.invariant.cols;
  rows = ap (λ m. m.rows) c.blend_run.ensures ∙ c.loop-k.invariant.rows;
}

pub returns-clause-painted : goal.returns-clause-painted
returns-clause-painted c member between =
    let f = c.loop-k.invariant.painted member between in
    painted_all c.args.w c.args.region member c.args.paint.colour c.args.paint.opacity _ c.args.image.now c.loop-k.image c.requires.region between.holds f
    (λ j i hi hj low. done_all (region_window c.args.w c.args.region) member c.args.places.now c.loop-k.k f.n j i between.crossings f.done c.loop-k-test.false hi hj low)
