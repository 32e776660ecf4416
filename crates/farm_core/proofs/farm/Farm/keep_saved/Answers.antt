use Rattle.std.proofs.Common.{length, sym, ap, ◌∙◌}
use Rattle.farm_refinement.specs.Seen.{FarmSeen}
use Rattle.farm_core.proofs.Rooming.{room_anew}
use Rattle.farm_core.proofs.farm.Farm.keep_saved.Goals as goal

pub invariant_of-self : goal.invariant_of-self
invariant_of-self g c =
    let is = c.self.view_is ∙ c.requires.started.is in
    room_anew _ _ _ _ _ _ _ _ c.args.styled.items c.styles_given-self-inside.result c.self.invariant (ap (λ (f : FarmSeen g.row.D.Denot). f.counts) is)
    (ap length c.requires.styled ∙ (c.requires.maps ∙ sym (ap (λ (f : FarmSeen g.row.D.Denot). length f.plan.maps) c.self.view_is)))
