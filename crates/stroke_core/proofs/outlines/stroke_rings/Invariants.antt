use Rattle.std.proofs.Common.{◌≡◌, take}
use Rattle.plain_shapes.specs.Strokes.{on_outline}
use Rattle.plain_image.specs.Surfaces.{Marks}
use Rattle.stroke_core.proofs.outlines.stroke_rings.Given as goal

abbrev pub invariant-loop-ring : goal.invariant-loop-ring
invariant-loop-ring g l = record {
  marks : Marks g.K.Surface.shows (on_outline (take l.ring-index l.rings) l.half) l.w l.fn.mask l.mask;
  cols : g.K.Surface.cols l.mask ≡ g.K.Surface.cols l.fn.mask;
  rows : g.K.Surface.rows l.mask ≡ g.K.Surface.rows l.fn.mask;
}
