use Rattle.std.proofs.Common.{sym, subst}
use Rattle.plain_world.specs.declared.world.Window.{Window}
use Rattle.plain_drawing.specs.Drawing.{feature}
use Rattle.tile_render.specs.inner.Chosen.{LeavesAll}
use Rattle.tile_render.proofs.styles.draw_shared.Goals as goal

pub returns-then-not-may_draw-clause-drawn : goal.returns-then-not-may_draw-clause-drawn
returns-then-not-may_draw-clause-drawn c =
    sym (subst (λ (w : Window). LeavesAll w c.args.scaled.now (feature c.args.shared.now)) c.window.ensures.value (c.may_draw.ensures c.if-not-may_draw.true) c.args.canvas.now.image)
