use Rattle.std.proofs.Common.{◌∙◌, ap, sym, subst, fold, map}
use Rattle.std.proofs.lemmas.Result.{on_ok_weaker}
use Rattle.plain_world.specs.World.{IsWindow}
use Rattle.plain_drawing.specs.Drawing.{feature, features_of}
use Rattle.plain_drawing.specs.inner.Pictures.{with_item}
use Rattle.data_versions.specs.Near.{all_near}
use Rattle.tile_render.specs.inner.Nearby.{Nearby}
use Rattle.tile_render.proofs.Leaving.{listed_drawn}
use Rattle.tile_render.proofs.Skipping.{near_drawn}
use Rattle.tile_render.proofs.styles.draw_source.Goals as goal

pub returns-in-Some-clause-drawn : goal.returns-in-Some-clause-drawn
returns-in-Some-clause-drawn c =
    let w = c.args.canvas.now.window in
    let scaled = c.args.scaled.now in
    on_ok_weaker c.draw_listed.result
    (λ e. e
    ∙ ap (λ fs. fold (with_item w scaled.denominator scaled.style) c.args.canvas.now.image (map feature (map (λ f. f.now) fs))) c.as_slice.ensures.value
    ∙ listed_drawn c.asked-asked.result w scaled c.args.canvas.now.image (map (λ f. f.now) c.in-Some.layer.now.features.items)
    (all_near (features_of c.keep.new.self.layers c.args.source.now.name.now) c.keep.new.self.around) (c.in-Some.ensures c.if-layer.true) c.asked-asked.ensures
    ∙ ap (λ fs. fold (with_item w scaled.denominator scaled.style) c.args.canvas.now.image (map feature fs))
    (ap (λ (n : Nearby). all_near (features_of n.layers c.args.source.now.name.now) n.around) c.keep.ensures
    ∙ ap (λ fs. all_near fs c.args.nearby.now.around) (sym c.requires.source) ∙ ap (all_near c.args.source.now.features) c.requires.near)
    ∙ near_drawn w scaled.denominator scaled.style c.args.source.now.features c.args.canvas.now.image
    (subst IsWindow c.window-window.ensures.value c.window-window.ensures.valid) c.know.ensures)
    c.draw_listed.ensures.drawn
