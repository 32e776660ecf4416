use Rattle.std.proofs.Common.{drop}
use Rattle.plain_shapes.specs.Rings.{in_rings}
use Rattle.raster_core.specs.inner.Columns.{Remains}
use Rattle.raster_core.proofs.edges.cross_rings.Given as goal

abbrev pub invariant-loop-ring : goal.invariant-loop-ring
invariant-loop-ring l = Remains l.w (in_rings (drop l.ring-index l.rings)) (in_rings l.rings) l.fn.crossed l.crossed
