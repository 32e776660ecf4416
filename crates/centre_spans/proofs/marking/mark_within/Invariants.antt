use Rattle.std.proofs.Common.{◌≡◌, ◌*◌, ◌≤◌}
use Rattle.plain_shapes.specs.inner.Canvas.{Reached}
use Rattle.plain_image.specs.Surfaces.{Becomes}
use Rattle.centre_spans.proofs.marking.mark_within.Given as goal

abbrev pub invariant-loop-j : goal.invariant-loop-j
invariant-loop-j g l = record {
  reached : Becomes g.K.Surface.shows (λ old now. Reached (g.S.Shape.holds l.shape) l.w (l.j * l.w.cols) old now) l.fn.mask l.mask;
  cols : g.K.Surface.cols l.mask ≡ g.K.Surface.cols l.fn.mask;
  rows : g.K.Surface.rows l.mask ≡ g.K.Surface.rows l.fn.mask;
  within : l.j ≤ l.w.rows;
}
