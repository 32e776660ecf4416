use Rattle.std.proofs.Common.{◌≡◌, ℕ, Bool, sym, subst, ◌∙◌}
use Rattle.std.specs.Prelude.{OnOk}
use Rattle.std.proofs.lemmas.Result.{on_ok_weaker}
use Rattle.plain_world.specs.declared.world.Point.{Point}
use Rattle.plain_shapes.specs.inner.Canvas.{stepped}
use Rattle.plain_drawing.specs.Drawing.{covers}
use Rattle.tile_render.specs.inner.Canvases.{Canvas}
use Rattle.tile_render.specs.inner.Regions.{IsRegion, HoldsCovered, over_member}
use Rattle.tile_render.proofs.Brushing.{over_picture, brush_kept, brush_done}
use Rattle.tile_render.proofs.canvas.Canvas.brush.Goals as goal

pub shape_of-self-inside : goal.shape_of-self-inside
shape_of-self-inside c =
    let region = subst (λ (m : Canvas). IsRegion m.window c.args.region) (sym c.self.view_is) c.requires.region in
    let over = over_picture c.self.inside.window c.args.region c.self.inside.image region c.self.invariant c.cols-cols.ensures.raster in
    sym (brush_kept _ c.cover_on.new.surface c.cover_on.ensures.shows over).0

pub invariant_of-self : goal.invariant_of-self
invariant_of-self c =
    let region = subst (λ (m : Canvas). IsRegion m.window c.args.region) (sym c.self.view_is) c.requires.region in
    let over = over_picture c.self.inside.window c.args.region c.self.inside.image region c.self.invariant c.cols-cols.ensures.raster in
    let kept = brush_kept _ c.cover_on.new.surface c.cover_on.ensures.shows over in
    record { valid = c.self.invariant.valid; cols = kept.1 ∙ c.self.invariant.cols; rows = kept.2 ∙ c.self.invariant.rows }

pub returns-clause-drawn : goal.returns-clause-drawn
returns-clause-drawn c =
    let w = c.self.inside.window in
    let member : ℕ → Point → Bool = λ pixel p. covers pixel c.args.feature.now.geometry p c.args.symbolizer in
    let region = subst (λ (m : Canvas). IsRegion m.window c.args.region) (sym c.self.view_is) c.requires.region in
    let holds = subst (λ (m : Canvas). HoldsCovered m.window c.args.region c.args.feature.now c.args.symbolizer) (sym c.self.view_is) c.requires.holds in
    let over = over_picture w c.args.region c.self.inside.image region c.self.invariant c.cols-cols.ensures.raster in
    subst (λ (m : Canvas). OnOk c.cover_on.result (c.cover_on.new.surface.image.now ≡ stepped m.window (over_member (member m.window.pixel) c.args.colour 1000) m.image)) c.self.view_is
    (on_ok_weaker c.cover_on.result (λ marks.
    brush_done w c.region_window-near.result _ c.cover_on.new.surface member marks region c.region_window-near.ensures.value
    c.self.invariant.cols c.self.invariant.rows over holds) c.cover_on.ensures.drawn)
