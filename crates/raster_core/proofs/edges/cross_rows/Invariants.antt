use Rattle.std.proofs.Common.{◌≤◌}
use Rattle.plain_shapes.specs.Rings.{counts_down}
use Rattle.raster_core.specs.inner.Toggles.{RowsToggled}
use Rattle.raster_core.specs.inner.Columns.{in_part}
use Rattle.raster_core.proofs.edges.cross_rows.Given as goal

abbrev pub invariant-loop-j : goal.invariant-loop-j
invariant-loop-j l = record {
  low : l.from ≤ l.j;
  rows : RowsToggled l.w (in_part l.w (counts_down l.e.a l.e.b) l.from l.to) l.j l.fn.places.items l.places.items;
}
