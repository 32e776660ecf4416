use Rattle.std.proofs.Common.{ap}
use Rattle.plain_shapes.specs.Strokes.{on_dot}
use Rattle.plain_image.proofs.Marking.{marks_none}
use Rattle.stroke_core.proofs.lines.mark_dot.Goals as goal

pub returns-in-Butt-clause-marks : goal.returns-in-Butt-clause-marks
returns-in-Butt-clause-marks g c =
    marks_none g.K.Surface.shows (on_dot c.args.half c.args.cap c.args.p) c.args.w c.args.mask.now (λ p. ap (λ cap. on_dot c.args.half cap c.args.p p) c.in-Butt.is)
