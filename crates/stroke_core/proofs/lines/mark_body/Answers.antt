use Rattle.std.proofs.Common.{not, ◌&&◌, ap}
use Rattle.plain_shapes.specs.Strokes.{is_same, in_body}
use Rattle.plain_image.proofs.Marking.{marks_same}
use Rattle.stroke_core.specs.declared.segments.Segment.{Segment}
use Rattle.stroke_core.proofs.lines.mark_body.Goals as goal

pub returns-clause-marks : goal.returns-clause-marks
returns-clause-marks g c =
    marks_same g.K.Surface.shows _ (λ p. not (is_same c.args.a c.args.b) && in_body c.args.half c.args.a c.args.b p) c.args.w c.args.mask.now c.mark_within.new.mask
    (λ p. ap (λ (s : Segment). not (is_same s.a s.b) && in_body s.half s.a s.b p) c.segment_of.ensures.fields) c.mark_within.ensures.marks

pub mark_within-requires-clause-heights : goal.mark_within-requires-clause-heights
mark_within-requires-clause-heights g c = c.heights_between-down.ensures
