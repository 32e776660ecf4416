use Rattle.std.proofs.Common.{◌≡◌, ◌-◌, Bool, length}
use Rattle.plain_world.specs.declared.world.Point.{Point}
use Rattle.raster_core.specs.inner.Crossings.{Done}
use Rattle.tile_render.specs.inner.Covers.{Between}
use Rattle.tile_render.specs.inner.Regions.{region_window}
use Rattle.tile_render.proofs.Runs.{PaintedTo}
use Rattle.tile_render.proofs.painting.paint_runs.Given as goal

abbrev pub invariant-loop-k : goal.invariant-loop-k
invariant-loop-k l = record {
  painted : (member : Point → Bool) → Between l.fn.w l.fn.region member l.fn.places
      → PaintedTo l.fn.w l.fn.region member l.fn.paint.colour l.fn.paint.opacity (Done (region_window l.fn.w l.fn.region) l.fn.places l.k) l.fn.image l.image;
  cols : l.image.cols ≡ l.fn.w.cols;
  rows : l.image.rows ≡ l.fn.w.rows;
}

abbrev pub decreases-loop-k : goal.decreases-loop-k
decreases-loop-k l = length l.places - l.k
