use Rattle.std.proofs.Common.{◌≤◌}
use Rattle.raster_core.specs.inner.Toggles.{RowsToggled}
use Rattle.raster_core.specs.inner.Columns.{in_run}
use Rattle.raster_core.proofs.columns.cross_run.Given as goal

abbrev pub invariant-loop-j : goal.invariant-loop-j
invariant-loop-j l = record {
  from : l.run.top ≤ l.j;
  rows : RowsToggled l.w (in_run l.run) l.j l.fn.places.items l.places.items;
}
