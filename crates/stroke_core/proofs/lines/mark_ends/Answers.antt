use Rattle.std.proofs.Common.{ap, sym, not, ◌&&◌, ◌||◌}
use Rattle.plain_shapes.specs.Strokes.{is_same, in_disk, before_start, past_end}
use Rattle.plain_image.proofs.Marking.{marks_none, marks_both, marks_same}
use Rattle.stroke_core.specs.inner.Parts.{on_ends}
use Rattle.stroke_core.proofs.lines.mark_ends.Goals as goal

pub returns-in-Butt-clause-marks : goal.returns-in-Butt-clause-marks
returns-in-Butt-clause-marks g c =
    marks_none g.K.Surface.shows (on_ends c.args.half c.args.cap c.args.a c.args.b c.args.y c.args.z) c.args.w c.args.mask.now
    (λ p. ap (λ cap. on_ends c.args.half cap c.args.a c.args.b c.args.y c.args.z p) c.in-Butt.is)

pub returns-in-Round-clause-marks : goal.returns-in-Round-clause-marks
returns-in-Round-clause-marks g c =
    marks_same g.K.Surface.shows (λ p. in_disk c.args.half c.args.a p || in_disk c.args.half c.args.z p) (on_ends c.args.half c.args.cap c.args.a c.args.b c.args.y c.args.z)
    c.args.w c.args.mask.now c.mark-in-Round.new.mask
    (λ p. sym (ap (λ cap. on_ends c.args.half cap c.args.a c.args.b c.args.y c.args.z p) c.in-Round.is))
    (marks_both g.K.Surface.shows (in_disk c.args.half c.args.a) (in_disk c.args.half c.args.z) c.args.w c.args.mask.now c.mark.new.mask c.mark-in-Round.new.mask
    c.mark.ensures.marks c.mark-in-Round.ensures.marks)

pub returns-in-Square-clause-marks : goal.returns-in-Square-clause-marks
returns-in-Square-clause-marks g c =
    marks_same g.K.Surface.shows
    (λ p. (not (is_same c.args.a c.args.b) && before_start c.args.half c.args.a c.args.b p) || (not (is_same c.args.y c.args.z) && past_end c.args.half c.args.y c.args.z p))
    (on_ends c.args.half c.args.cap c.args.a c.args.b c.args.y c.args.z)
    c.args.w c.args.mask.now c.mark_end.new.mask
    (λ p. sym (ap (λ cap. on_ends c.args.half cap c.args.a c.args.b c.args.y c.args.z p) c.in-Square.is))
    (marks_both g.K.Surface.shows (λ p. not (is_same c.args.a c.args.b) && before_start c.args.half c.args.a c.args.b p)
    (λ p. not (is_same c.args.y c.args.z) && past_end c.args.half c.args.y c.args.z p)
    c.args.w c.args.mask.now c.mark_start.new.mask c.mark_end.new.mask c.mark_start.ensures.marks c.mark_end.ensures.marks)
