use Rattle.std.proofs.Common.{ap, sym, subst, ◌∙◌}
use Rattle.std.specs.Prelude.{OnOk}
use Rattle.std.proofs.lemmas.Bool.{true≢false}
use Rattle.plain_drawing.specs.declared.style.Symbolizer.{Symbolizer}
use Rattle.plain_drawing.specs.Drawing.{covers}
use Rattle.plain_image.specs.Surfaces.{Marks}
use Rattle.plain_image.proofs.Marking.{becomes_none, becomes_same, marks_none}
use Rattle.tile_render.specs.inner.Covers.{is_fill}
use Rattle.tile_render.proofs.Covering.{raster_off}
use Rattle.tile_render.proofs.covers.cover_on.Goals as goal

pub returns-in-Polygon-clause-drawn : goal.returns-in-Polygon-clause-drawn
returns-in-Polygon-clause-drawn g c = absurd (true≢false (sym (ap is_fill c.in-Polygon.is) ∙ c.requires.kind))

pub returns-in-Polygon-clause-shows : goal.returns-in-Polygon-clause-shows
returns-in-Polygon-clause-shows g c = becomes_none g.K.Surface.shows _ c.args.surface.now (λ a. tt)

pub returns-in-Line-clause-drawn : goal.returns-in-Line-clause-drawn
returns-in-Line-clause-drawn g c =
    subst (λ (s : Symbolizer). OnOk c.stroke.result (Marks g.K.Surface.shows (λ p. covers c.args.w.pixel c.args.feature.now.geometry p s) c.args.w c.args.surface.now c.stroke.new.surface))
    (sym c.in-Line.is) (c.stroke.ensures.drawn c.in-Line.stroke c.in-Line.stroke_opacity)

pub returns-in-Markers-clause-drawn : goal.returns-in-Markers-clause-drawn
returns-in-Markers-clause-drawn g c =
    subst (λ (s : Symbolizer). Marks g.K.Surface.shows (λ p. covers c.args.w.pixel c.args.feature.now.geometry p s) c.args.w c.args.surface.now c.mark.new.surface)
    (sym c.in-Markers.is) (c.mark.ensures c.in-Markers.fill c.in-Markers.opacity)

pub returns-in-Markers-clause-shows : goal.returns-in-Markers-clause-shows
returns-in-Markers-clause-shows g c =
    becomes_same g.K.Surface.shows _ _ c.args.surface.now c.mark.new.surface (λ a b p. tt) (c.mark.ensures c.in-Markers.fill c.in-Markers.opacity)

pub returns-in-Raster-clause-drawn : goal.returns-in-Raster-clause-drawn
returns-in-Raster-clause-drawn g c =
    marks_none g.K.Surface.shows (λ p. covers c.args.w.pixel c.args.feature.now.geometry p c.args.symbolizer) c.args.w c.args.surface.now
    (λ p. ap (covers c.args.w.pixel c.args.feature.now.geometry p) c.in-Raster.is ∙ raster_off c.args.w.pixel c.in-Raster.opacity c.args.feature.now.geometry p)

pub returns-in-Raster-clause-shows : goal.returns-in-Raster-clause-shows
returns-in-Raster-clause-shows g c = becomes_none g.K.Surface.shows _ c.args.surface.now (λ a. tt)
