use Rattle.std.proofs.Common.{Bool, List, ap, sym}
use Rattle.plain_shapes.specs.Strokes.{in_disk}
use Rattle.plain_image.proofs.Marking.{becomes_none, marks_both}
use Rattle.centre_spans.proofs.Rounds.{all_kept}
use Rattle.stroke_core.specs.inner.Parts.{on_part}
use Rattle.stroke_core.proofs.Sides.{side}
use Rattle.stroke_core.proofs.lines.mark_part.Goals as goal

pub returns-then-is_off-clause-marks : goal.returns-then-is_off-clause-marks
returns-then-is_off-clause-marks g c =
    becomes_none g.K.Surface.shows _ c.args.mask.now (λ a. ap (λ (bs : List Bool). record a { bits = bs })
    (sym (all_kept (on_part c.args.half c.args.a c.args.b) c.args.w a.bits c.requires.window.some_col
    (λ j i col row held. absurd (c.is_off.ensures c.if-is_off.true j i col row held)))))

pub returns-clause-marks : goal.returns-clause-marks
returns-clause-marks g c =
    marks_both g.K.Surface.shows (side c.args.half c.args.a c.args.b) (in_disk c.args.half c.args.b) c.args.w c.args.mask.now c.mark_body.new.mask c.mark.new.mask c.mark_body.ensures.marks c.mark.ensures.marks
