use Rattle.std.proofs.Math.Bool.{or_comm}
use Rattle.plain_shapes.specs.Strokes.{in_disk}
use Rattle.plain_image.proofs.Marking.{marks_both, marks_same}
use Rattle.stroke_core.specs.inner.Parts.{on_part}
use Rattle.stroke_core.proofs.Sides.{side}
use Rattle.stroke_core.proofs.Rounds.{or_twice}
use Rattle.stroke_core.proofs.lines.mark_short.Goals as goal

pub returns-then-is_part_known-2-clause-marks : goal.returns-then-is_part_known-2-clause-marks
returns-then-is_part_known-2-clause-marks g c =
    let half = c.args.half in
    marks_same g.K.Surface.shows _ (on_part half c.args.a c.args.b) c.args.w c.args.mask.now c.mark.new.mask
    (λ p. or_twice (side half c.args.a c.args.b p) (in_disk half c.args.b p))
    (marks_both g.K.Surface.shows (in_disk half c.args.b) (on_part half c.args.a c.args.b) c.args.w c.args.mask.now c.mark.new.mask c.mark.new.mask c.mark.ensures.marks (c.is_part_known-2.ensures c.if-is_part_known-2.true))

pub returns-clause-marks : goal.returns-clause-marks
returns-clause-marks g c =
    let half = c.args.half in
    marks_same g.K.Surface.shows _ (on_part half c.args.a c.args.b) c.args.w c.args.mask.now c.mark_body.new.mask
    (λ p. or_comm (in_disk half c.args.b p) (side half c.args.a c.args.b p))
    (marks_both g.K.Surface.shows (in_disk half c.args.b) (side half c.args.a c.args.b) c.args.w c.args.mask.now c.mark.new.mask c.mark_body.new.mask c.mark.ensures.marks c.mark_body.ensures.marks)
