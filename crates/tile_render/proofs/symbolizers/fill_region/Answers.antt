use Rattle.std.proofs.Common.{Bool, ap, sym, subst, ◌∙◌}
use Rattle.std.proofs.lemmas.Result.{on_ok_weaker}
use Rattle.plain_world.specs.declared.world.Point.{Point}
use Rattle.plain_world.specs.World.{centre}
use Rattle.plain_shapes.specs.Rings.{in_rings}
use Rattle.plain_shapes.specs.inner.Canvas.{stepped}
use Rattle.tile_render.specs.inner.Regions.{Holds, over_member}
use Rattle.tile_render.proofs.Covering.{filled, points_unfilled, lines_unfilled}
use Rattle.tile_render.proofs.Painted.{not_covered, painted_cover}
use Rattle.tile_render.proofs.symbolizers.fill_region.Goals as goal

pub fill-requires-clause-holds : goal.fill-requires-clause-holds
fill-requires-clause-holds c =
    let w = c.args.canvas.now.window in
    subst (λ (m : Point → Bool). Holds w c.args.region m)
    (λ i p. (filled w.pixel c.args.feature.now.geometry c.args.symbolizer c.in-Polygon.rings p c.requires.kind (sym c.geometry.ensures.value ∙ c.in-Polygon.is)
    ∙ ap (λ rings. in_rings rings p) (sym c.as_slice.ensures)) i) c.requires.holds

pub returns-in-Points-clause-drawn : goal.returns-in-Points-clause-drawn
returns-in-Points-clause-drawn c =
    let w = c.args.canvas.now.window in
    not_covered w c.args.feature.now c.args.canvas.now.image c.args.symbolizer
    (λ j i col row. points_unfilled w.pixel c.args.feature.now.geometry c.args.symbolizer _ (centre w i j) c.requires.kind (sym c.geometry.ensures.value ∙ c.in-Points.is))

pub returns-in-Lines-clause-drawn : goal.returns-in-Lines-clause-drawn
returns-in-Lines-clause-drawn c =
    let w = c.args.canvas.now.window in
    not_covered w c.args.feature.now c.args.canvas.now.image c.args.symbolizer
    (λ j i col row. lines_unfilled w.pixel c.args.feature.now.geometry c.args.symbolizer _ (centre w i j) c.requires.kind (sym c.geometry.ensures.value ∙ c.in-Lines.is))

pub returns-in-Polygon-clause-drawn : goal.returns-in-Polygon-clause-drawn
returns-in-Polygon-clause-drawn c =
    let w = c.args.canvas.now.window in
    let paint = c.paint_of.result in
    on_ok_weaker c.fill.result (λ drawn.
    painted_cover w c.args.feature.now c.args.symbolizer paint.colour paint.opacity c.args.canvas.now.image c.fill.new.self.image c.paint_of.ensures.value
    (drawn ∙ ap (λ (m : Point → Bool). stepped w (over_member m paint.colour paint.opacity) c.args.canvas.now.image)
    (λ i p. sym (filled w.pixel c.args.feature.now.geometry c.args.symbolizer c.in-Polygon.rings p c.requires.kind (sym c.geometry.ensures.value ∙ c.in-Polygon.is)
    ∙ ap (λ rings. in_rings rings p) (sym c.as_slice.ensures)) i))) c.fill.ensures.drawn
