use Rattle.std.proofs.Common.{◌-◌, ◌||◌, length, sym, ◌∙◌}
use Rattle.std.proofs.lemmas.Bool.{eqb-true, eqb-false}
use Rattle.plain_shapes.specs.Strokes.{on_sides, on_disks, on_ring}
use Rattle.plain_image.proofs.Marking.{marks_none, marks_same}
use Rattle.stroke_core.specs.inner.Parts.{point_at}
use Rattle.stroke_core.proofs.Sides.{ring_none, ring_is}
use Rattle.stroke_core.proofs.outlines.mark_ring.Goals as goal

pub returns-then-is_empty-clause-marks : goal.returns-then-is_empty-clause-marks
returns-then-is_empty-clause-marks g c =
    marks_none g.K.Surface.shows (λ p. on_ring c.args.half p c.args.ps.now) c.args.w c.args.mask.now
    (ring_none c.args.half c.args.ps.now (eqb-true _ 0 (sym c.is_empty.ensures ∙ c.if-is_empty.true)))

pub returns-clause-marks : goal.returns-clause-marks
returns-clause-marks g c =
    let ps = c.args.ps.now in
    marks_same g.K.Surface.shows (λ p. on_sides c.args.half (point_at ps (length ps - 1)) ps p || on_disks c.args.half ps p) (λ p. on_ring c.args.half p ps) c.args.w c.args.mask.now c.mark_rounded.new.mask
    (ring_is c.args.half ps (eqb-false _ 0 (sym c.is_empty.ensures ∙ c.if-is_empty.false))) c.mark_rounded.ensures.marks
