use Rattle.std.proofs.Common.{◌∙◌, ap, sym}
use Rattle.std.proofs.lemmas.Result.{on_ok_weaker}
use Rattle.plain_drawing.specs.declared.style.Symbolizer.TheVariants as paint
use Rattle.plain_shapes.specs.Strokes.{on_stroke, on_outline, half_of}
use Rattle.plain_drawing.specs.Drawing.{covers}
use Rattle.plain_image.proofs.Marking.{becomes_none, becomes_same, marks_none, marks_same}
use Rattle.tile_render.proofs.Steps.{in_both, ok_of}
use Rattle.tile_render.proofs.covers.stroke.Goals as goal

pub returns-in-Points-clause-drawn : goal.returns-in-Points-clause-drawn
returns-in-Points-clause-drawn g c colour opacity =
    marks_none g.K.Surface.shows (λ p. covers c.args.w.pixel c.args.feature.now.geometry p (paint.Line colour c.args.width opacity c.args.cap)) c.args.w c.args.surface.now
    (λ p. ap (λ s. covers c.args.w.pixel s p (paint.Line colour c.args.width opacity c.args.cap)) (sym c.geometry.ensures.value ∙ c.in-Points.is))

pub returns-in-Points-clause-shows : goal.returns-in-Points-clause-shows
returns-in-Points-clause-shows g c = becomes_none g.K.Surface.shows _ c.args.surface.now (λ a. tt)

pub returns-in-Lines-clause-drawn : goal.returns-in-Lines-clause-drawn
returns-in-Lines-clause-drawn g c colour opacity =
    on_ok_weaker c.stroke_lines.result (λ marked.
    marks_same g.K.Surface.shows (on_stroke c.as_slice.result.now c.half_of-half.result c.args.cap)
    (λ p. covers c.args.w.pixel c.args.feature.now.geometry p (paint.Line colour c.args.width opacity c.args.cap)) c.args.w c.args.surface.now c.stroke_lines.new.mask
    (λ p. sym (ap (λ s. covers c.args.w.pixel s p (paint.Line colour c.args.width opacity c.args.cap)) (sym c.geometry.ensures.value ∙ c.in-Lines.is)
    ∙ ap (λ ls. on_stroke ls (half_of c.args.width c.args.w.pixel) c.args.cap p) (sym c.as_slice.ensures)
    ∙ ap (λ half. on_stroke c.as_slice.result.now half c.args.cap p) (sym c.half_of-half.ensures.value)))
    marked) c.stroke_lines.ensures.drawn

pub returns-in-Lines-clause-shows : goal.returns-in-Lines-clause-shows
returns-in-Lines-clause-shows g c =
    in_both c.stroke_lines.result
    (becomes_same g.K.Surface.shows _ _ c.args.surface.now c.stroke_lines.new.mask (λ a b p. tt))
    (becomes_same g.K.Surface.shows _ _ c.args.surface.now c.stroke_lines.new.mask (λ a b p. tt))
    c.stroke_lines.ensures.drawn c.stroke_lines.ensures.refused

pub returns-in-Polygon-clause-drawn : goal.returns-in-Polygon-clause-drawn
returns-in-Polygon-clause-drawn g c colour opacity =
    ok_of c.stroke_rings.result
    (marks_same g.K.Surface.shows (on_outline c.as_slice-in-Polygon.result.now c.half_of-half.result)
    (λ p. covers c.args.w.pixel c.args.feature.now.geometry p (paint.Line colour c.args.width opacity c.args.cap)) c.args.w c.args.surface.now c.stroke_rings.new.mask
    (λ p. sym (ap (λ s. covers c.args.w.pixel s p (paint.Line colour c.args.width opacity c.args.cap)) (sym c.geometry.ensures.value ∙ c.in-Polygon.is)
    ∙ ap (λ ls. on_outline ls (half_of c.args.width c.args.w.pixel) p) (sym c.as_slice-in-Polygon.ensures)
    ∙ ap (λ half. on_outline c.as_slice-in-Polygon.result.now half p) (sym c.half_of-half.ensures.value)))
    c.stroke_rings.ensures.drawn)

pub returns-in-Polygon-clause-shows : goal.returns-in-Polygon-clause-shows
returns-in-Polygon-clause-shows g c = becomes_same g.K.Surface.shows _ _ c.args.surface.now c.stroke_rings.new.mask (λ a b p. tt) c.stroke_rings.ensures.drawn
