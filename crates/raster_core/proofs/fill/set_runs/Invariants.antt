use Rattle.std.proofs.Common.{◌≡◌, ◌-◌, Bool, length}
use Rattle.plain_world.specs.declared.world.Point.{Point}
use Rattle.raster_core.specs.inner.Crossings.{Crossings}
use Rattle.raster_core.proofs.Filling.{Filled}
use Rattle.raster_core.proofs.fill.set_runs.Given as goal

abbrev pub invariant-loop-k : goal.invariant-loop-k
invariant-loop-k l = record {
  filled : (member : Point → Bool) → Crossings l.w member l.places → Filled l.w member l.places l.k l.fn.mask l.mask;
  cols : l.mask.cols ≡ l.fn.mask.cols;
  rows : l.mask.rows ≡ l.fn.mask.rows;
}

abbrev pub decreases-loop-k : goal.decreases-loop-k
decreases-loop-k l = length l.places - l.k
