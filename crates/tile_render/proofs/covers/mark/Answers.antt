use Rattle.std.proofs.Common.{◌∙◌, ap, sym}
use Rattle.plain_drawing.specs.declared.style.Symbolizer.TheVariants as paint
use Rattle.plain_shapes.specs.Strokes.{on_marks, half_of}
use Rattle.plain_drawing.specs.Drawing.{covers}
use Rattle.plain_image.proofs.Marking.{marks_none, marks_same}
use Rattle.tile_render.proofs.Covering.{points_inside}
use Rattle.tile_render.proofs.covers.mark.Goals as goal

pub mark_points-requires-clause-points : goal.mark_points-requires-clause-points
mark_points-requires-clause-points g c =
    points_inside c.args.feature.now.geometry c.in-Points.points (sym c.geometry.ensures.value ∙ c.in-Points.is) c.geometry.ensures.valid.in_world

pub returns-in-Points : goal.returns-in-Points
returns-in-Points g c colour opacity =
    marks_same g.K.Surface.shows (on_marks c.in-Points.points c.half_of-a.result c.half_of-b.result)
    (λ p. covers c.args.w.pixel c.args.feature.now.geometry p (paint.Markers colour c.args.width c.args.height opacity)) c.args.w c.args.surface.now c.mark_points.new.mask
    (λ p. sym (ap (λ s. covers c.args.w.pixel s p (paint.Markers colour c.args.width c.args.height opacity)) (sym c.geometry.ensures.value ∙ c.in-Points.is)
    ∙ ap (λ a. on_marks c.in-Points.points a (half_of c.args.height c.args.w.pixel) p) (sym c.half_of-a.ensures.value)
    ∙ ap (λ b. on_marks c.in-Points.points c.half_of-a.result b p) (sym c.half_of-b.ensures.value)))
    c.mark_points.ensures.marks

pub returns-in-Lines : goal.returns-in-Lines
returns-in-Lines g c colour opacity =
    marks_none g.K.Surface.shows (λ p. covers c.args.w.pixel c.args.feature.now.geometry p (paint.Markers colour c.args.width c.args.height opacity)) c.args.w c.args.surface.now
    (λ p. ap (λ s. covers c.args.w.pixel s p (paint.Markers colour c.args.width c.args.height opacity)) (sym c.geometry.ensures.value ∙ c.in-Lines.is))

pub returns-in-Polygon : goal.returns-in-Polygon
returns-in-Polygon g c colour opacity =
    marks_none g.K.Surface.shows (λ p. covers c.args.w.pixel c.args.feature.now.geometry p (paint.Markers colour c.args.width c.args.height opacity)) c.args.w c.args.surface.now
    (λ p. ap (λ s. covers c.args.w.pixel s p (paint.Markers colour c.args.width c.args.height opacity)) (sym c.geometry.ensures.value ∙ c.in-Polygon.is))
