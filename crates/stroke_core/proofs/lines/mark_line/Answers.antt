use Rattle.std.proofs.Common.{◌∙◌, sym}
use Rattle.std.proofs.lemmas.Bool.{eqb-true}
use Rattle.plain_image.proofs.Marking.{marks_none}
use Rattle.stroke_core.specs.inner.Parts.{on_parts}
use Rattle.stroke_core.proofs.Sides.{parts_none}
use Rattle.stroke_core.proofs.lines.mark_line.Goals as goal

pub returns-then-is_empty-clause-marks : goal.returns-then-is_empty-clause-marks
returns-then-is_empty-clause-marks g c =
    marks_none g.K.Surface.shows (on_parts c.args.half c.args.cap c.args.ps.now) c.args.w c.args.mask.now
    (parts_none c.args.half c.args.cap c.args.ps.now (eqb-true _ 0 (sym c.is_empty.ensures ∙ c.if-is_empty.true)))
