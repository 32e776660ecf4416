use Rattle.std.proofs.Common.{◌≡◌, ◌*◌, ap, subst, ◌∙◌, refl, arith}
use Rattle.plain_drawing.specs.declared.style.Symbolizer.TheVariants as paint
use Rattle.plain_drawing.specs.Drawing.{raster_over}
use Rattle.tile_render.specs.inner.Regions.{Changed}
use Rattle.tile_render.proofs.Changing.{changed_start, changed_end}
use Rattle.tile_render.proofs.grids.blend_grid.Goals as goal

pub loop-j-init : goal.loop-j-init
loop-j-init c = record {
  cols = refl;
  rows = refl;
  changed =
      (let none : 0 ≡ 0 * c.args.w.cols = omega arith in
      subst (λ n. Changed (λ p d. raster_over c.args.grid.now p d (paint.Raster c.args.opacity)) c.args.w n c.args.image.now c.args.image.now) none
      (changed_start (λ p d. raster_over c.args.grid.now p d (paint.Raster c.args.opacity)) c.args.w c.args.image.now));
}

pub loop-j-preserved : goal.loop-j-preserved
loop-j-preserved c = record {
  cols = c.blend_row.ensures.cols ∙ c.loop-j.invariant.cols;
  rows = c.blend_row.ensures.rows ∙ c.loop-j.invariant.rows;
  changed = c.blend_row.ensures.painted c.args.image.now c.loop-j.invariant.changed;
}

pub returns-clause-blended : goal.returns-clause-blended
returns-clause-blended c =
    changed_end (λ p d. raster_over c.args.grid.now p d (paint.Raster c.args.opacity)) c.args.w (c.loop-j.j * c.args.w.cols) c.args.image.now c.loop-j.image
    (ap (λ n. n * c.args.w.cols) (omega (arith, c.loop-j-test.false, c.loop-j.auto.j-end))) c.loop-j.invariant.changed
