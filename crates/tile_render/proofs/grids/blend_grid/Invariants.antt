use Rattle.std.proofs.Common.{◌≡◌, ◌*◌}
use Rattle.plain_drawing.specs.declared.style.Symbolizer.TheVariants as paint
use Rattle.plain_drawing.specs.Drawing.{raster_over}
use Rattle.tile_render.specs.inner.Regions.{Changed}
use Rattle.tile_render.proofs.grids.blend_grid.Given as goal

abbrev pub invariant-loop-j : goal.invariant-loop-j
invariant-loop-j l = record {
  cols : l.image.cols ≡ l.fn.image.cols;
  rows : l.image.rows ≡ l.fn.image.rows;
  changed : Changed (λ c d. raster_over l.grid c d (paint.Raster l.opacity)) l.w (l.j * l.w.cols) l.fn.image l.image;
}
