use Rattle.std.proofs.Common.{subst, ap, ◌∙◌, None, Some}
use Rattle.std.specs.Prelude.{Option}
use Rattle.std.proofs.lemmas.Result.{on_ok_weaker}
use Rattle.plain_world.specs.declared.world.Window.{Window}
use Rattle.plain_shapes.specs.Blending.{blend}
use Rattle.plain_drawing.specs.Drawing.{covers}
use Rattle.tile_render.specs.declared.covers.Covered.{Covered}
use Rattle.tile_render.specs.inner.Covers.{Covers, IsCover}
use Rattle.tile_render.proofs.Painted.{not_covered, painted_cover}
use Rattle.tile_render.proofs.symbolizers.draw_region.Goals as goal

pub returns-then-paint-eq1000-clause-drawn : goal.returns-then-paint-eq1000-clause-drawn
returns-then-paint-eq1000-clause-drawn c =
    let paint = c.paint_of-paint.result in
    on_ok_weaker c.brush.result
    (painted_cover c.args.canvas.now.window c.args.feature.now c.args.symbolizer paint.colour 1000 c.args.canvas.now.image c.brush.new.self.image
    (λ d. c.paint_of-paint.ensures.value d ∙ ap (λ n. blend paint.colour n d) c.if-paint-eq1000.true)) c.brush.ensures.drawn

pub returns-in-Some-clause-drawn : goal.returns-in-Some-clause-drawn
returns-in-Some-clause-drawn c =
    let w = c.args.canvas.now.window in
    let f = c.args.feature.now in
    let s = c.args.symbolizer in
    let found : Covers c.window.result f s (Some c.in-Some.covered) = subst (λ (found : Option Covered). Covers c.window.result f s found) c.in-Some.is c.in_ok-covered.ensures in
    let is : IsCover w f s c.in-Some.covered = subst (λ (v : Window). IsCover v f s c.in-Some.covered) c.window.ensures.value found in
    painted_cover w f s c.paint_of-paint.result.colour c.paint_of-paint.result.opacity c.args.canvas.now.image c.paint.new.self.image c.paint_of-paint.ensures.value
    (c.paint.ensures.painted (λ p. covers w.pixel f.geometry p s) is.says)

pub returns-in-None-clause-drawn : goal.returns-in-None-clause-drawn
returns-in-None-clause-drawn c =
    let f = c.args.feature.now in
    let s = c.args.symbolizer in
    let found : Covers c.window.result f s None = subst (λ (found : Option Covered). Covers c.window.result f s found) c.in-None.is c.in_ok-covered.ensures in
    not_covered c.args.canvas.now.window f c.args.canvas.now.image s (subst (λ (v : Window). Covers v f s None) c.window.ensures.value found)
