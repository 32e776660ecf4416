use Rattle.std.proofs.Common.{◌≡◌, take}
use Rattle.plain_shapes.specs.Strokes.{on_stroke}
use Rattle.plain_image.specs.Surfaces.{Marks}
use Rattle.stroke_core.proofs.lines.stroke_lines.Given as goal

abbrev pub invariant-loop-line : goal.invariant-loop-line
invariant-loop-line g l = record {
  marks : Marks g.K.Surface.shows (on_stroke (take l.line-index l.lines) l.half l.cap) l.w l.fn.mask l.mask;
  cols : g.K.Surface.cols l.mask ≡ g.K.Surface.cols l.fn.mask;
  rows : g.K.Surface.rows l.mask ≡ g.K.Surface.rows l.fn.mask;
}
