use Rattle.std.proofs.Common.{◌≡◌, ◌+◌, ◌-◌, ◌*◌, ◌≤◌}
use Rattle.plain_shapes.specs.Images.{Pixels}
use Rattle.plain_drawing.specs.declared.style.Symbolizer.TheVariants as paint
use Rattle.plain_drawing.specs.Drawing.{raster_over}
use Rattle.tile_render.specs.inner.Regions.{Changed}
use Rattle.tile_render.proofs.grids.blend_row.Given as goal

abbrev pub invariant-loop-i : goal.invariant-loop-i
invariant-loop-i l = record {
  cols : l.image.cols ≡ l.fn.image.cols;
  rows : l.image.rows ≡ l.fn.image.rows;
  within : l.i ≤ l.w.cols;
  painted : (start : Pixels) → Changed (λ c d. raster_over l.grid c d (paint.Raster l.opacity)) l.w (l.j * l.w.cols) start l.fn.image
      → Changed (λ c d. raster_over l.grid c d (paint.Raster l.opacity)) l.w (l.j * l.w.cols + l.i) start l.image;
}

abbrev pub decreases-loop-i : goal.decreases-loop-i
decreases-loop-i l = l.w.cols - l.i
