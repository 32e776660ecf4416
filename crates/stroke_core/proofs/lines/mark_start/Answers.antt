use Rattle.std.proofs.Common.{not, ◌&&◌, ap}
use Rattle.plain_shapes.specs.Strokes.{is_same, before_start}
use Rattle.plain_image.proofs.Marking.{marks_same}
use Rattle.stroke_core.specs.declared.segments.Segment.{Segment}
use Rattle.stroke_core.proofs.lines.mark_start.Goals as goal

pub returns-clause-marks : goal.returns-clause-marks
returns-clause-marks g c =
    marks_same g.K.Surface.shows _ (λ p. not (is_same c.args.a c.args.b) && before_start c.args.half c.args.a c.args.b p) c.args.w c.args.mask.now c.mark.new.mask
    (λ p. ap (λ (s : Segment). not (is_same s.a s.b) && before_start s.half s.a s.b p) c.segment_of-of.ensures.fields) c.mark.ensures.marks
