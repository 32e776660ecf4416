use Rattle.std.proofs.Common.{◌-◌, length, take}
use Rattle.raster_core.specs.inner.Toggles.{Toggled}
use Rattle.raster_core.specs.inner.Columns.{odd_corners}
use Rattle.raster_core.proofs.columns.cross_columns.Given as goal

abbrev pub invariant-loop-k : goal.invariant-loop-k
invariant-loop-k l = Toggled l.w (odd_corners (take l.k l.corners)) l.fn.places.items l.places.items

abbrev pub decreases-loop-k : goal.decreases-loop-k
decreases-loop-k l = length l.corners - l.k
