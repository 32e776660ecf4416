use Rattle.std.proofs.Common.{◌∙◌, ap, sym, subst, filter}
use Rattle.plain_drawing.specs.Rules.{at_scale}
use Rattle.tile_render.specs.inner.Chosen.{Scaled}
use Rattle.tile_render.specs.inner.Regions.{HasNoCentre}
use Rattle.tile_render.proofs.Passing.{fills_leave}
use Rattle.tile_render.proofs.scaled.ScaledStyle.may_paint.Goals as goal

pub returns-else-not-self : goal.returns-else-not-self
returns-else-not-self c none =
    fills_leave (λ r. r.now) c.args.w c.args.self.now c.args.shared.now c.self.inside.rules.items
    (c.self.invariant.0 ∙ ap (λ (s : Scaled). filter (at_scale s.denominator) s.style.rules) c.self.view_is)
    (sym c.self.invariant.2 ∙ c.if-not-self.false)
    (subst (HasNoCentre c.args.w) c.bbox.ensures (c.may_have_centre.ensures none))
