use Rattle.std.proofs.Common.{◌≡◌, ℕ, ◌<◌, false, subst}
use Rattle.plain_world.specs.declared.world.Window.{Window}
use Rattle.plain_world.specs.World.{centre}
use Rattle.plain_drawing.specs.Drawing.{covers}
use Rattle.tile_render.proofs.Painted.{not_covered}
use Rattle.tile_render.proofs.symbolizers.draw_on_feature.Goals as goal

pub returns-in-None-clause-drawn : goal.returns-in-None-clause-drawn
returns-in-None-clause-drawn c =
    let f = c.args.feature.now in
    let s = c.args.symbolizer in
    not_covered c.args.canvas.now.window f c.args.canvas.now.image s
    (subst (λ (v : Window). (j i : ℕ) → i < v.cols → j < v.rows → covers v.pixel f.geometry (centre v i j) s ≡ false) c.window.ensures.value c.in-None.ensures.holds)
