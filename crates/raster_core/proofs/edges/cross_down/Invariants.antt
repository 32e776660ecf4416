use Rattle.std.proofs.Common.{◌≤◌, ◌-◌}
use Rattle.plain_shapes.specs.Rings.{counts_down}
use Rattle.raster_core.specs.inner.Columns.{PartTurned, in_part}
use Rattle.raster_core.proofs.edges.cross_down.Given as goal

abbrev pub invariant-loop-from : goal.invariant-loop-from
invariant-loop-from l = record {
  low : l.edge.top ≤ l.from;
  turned : PartTurned l.w (in_part l.w (counts_down l.edge.a l.edge.b) l.edge.top l.from) l.fn.crossed l.crossed;
}

abbrev pub decreases-loop-from : goal.decreases-loop-from
decreases-loop-from l = l.edge.bottom - l.from
