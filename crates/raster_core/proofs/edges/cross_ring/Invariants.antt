use Rattle.std.proofs.Common.{drop}
use Rattle.plain_world.specs.World.{InWorld}
use Rattle.plain_shapes.specs.Rings.{edges_from, ring_edges}
use Rattle.raster_core.specs.inner.Toggles.{odd_edges}
use Rattle.raster_core.specs.inner.Columns.{Remains}
use Rattle.raster_core.proofs.edges.cross_ring.Given as goal

abbrev pub invariant-loop-p : goal.invariant-loop-p
invariant-loop-p l = record {
  within : InWorld l.before;
  left : Remains l.w (odd_edges (edges_from l.before (drop l.p-index l.points))) (odd_edges (ring_edges l.points)) l.fn.crossed l.crossed;
}
