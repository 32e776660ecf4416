use Rattle.std.proofs.Common.{List, All, subst, ap, sym, ◌∙◌}
use Rattle.plain_world.specs.declared.world.Point.{Point}
use Rattle.plain_world.specs.World.{InWorld}
use Rattle.plain_shapes.specs.Strokes.{line_points, on_line}
use Rattle.plain_image.proofs.Marking.{marks_same}
use Rattle.stroke_core.specs.inner.Parts.{on_parts}
use Rattle.stroke_core.proofs.Sides.{kept_within, parts_kept}
use Rattle.stroke_core.proofs.lines.stroke_line.Goals as goal

pub mark_line-requires-clause-points : goal.mark_line-requires-clause-points
mark_line-requires-clause-points g c =
    let is = c.deref-2.ensures.value ∙ c.in_ok-points.ensures ∙ ap line_points (c.deref.ensures.value ∙ c.line.view_is) in
    let P : List Point → Type 0 = λ ps. All InWorld ps in
    subst P (sym is) (kept_within c.args.line.now c.requires.points)

pub returns-clause-drawn : goal.returns-clause-drawn
returns-clause-drawn g c =
    let is = c.deref-2.ensures.value ∙ c.in_ok-points.ensures ∙ ap line_points (c.deref.ensures.value ∙ c.line.view_is) in
    marks_same g.K.Surface.shows (on_parts c.args.half c.args.cap c.deref-2.result.now) (λ p. on_line c.args.half c.args.cap p c.args.line.now) c.args.w c.args.mask.now c.mark_line.new.mask
    (λ p. ap (λ ps. on_parts c.args.half c.args.cap ps p) is ∙ parts_kept c.args.half c.args.cap c.args.line.now p) c.mark_line.ensures.marks
