use Rattle.std.proofs.Common.{◌≡◌, take}
use Rattle.plain_shapes.specs.Strokes.{on_marks}
use Rattle.plain_image.specs.Surfaces.{Marks}
use Rattle.mark_core.proofs.points.mark_each.Given as goal

abbrev pub invariant-loop-p : goal.invariant-loop-p
invariant-loop-p g l = record {
  marks : Marks g.K.Surface.shows (on_marks (take l.p-index l.points) l.a l.b) l.w l.fn.mask l.mask;
  cols : g.K.Surface.cols l.mask ≡ g.K.Surface.cols l.fn.mask;
  rows : g.K.Surface.rows l.mask ≡ g.K.Surface.rows l.fn.mask;
}
