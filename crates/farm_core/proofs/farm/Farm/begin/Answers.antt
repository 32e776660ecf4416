use Rattle.std.proofs.Common.{rules, ◌≡◌, ◌<◌, [], ◌∷◌, ◌++◌, length, sym, subst}
use Rattle.farm_plan.specs.Spots.{IsKeyOf}
use Rattle.farm_refinement.specs.Seen.{FarmSeen}
use Rattle.farm_core.specs.inner.Effects.{IsJobFor}
use Rattle.farm_core.proofs.Given.{job_for, styled_at}
use Rattle.farm_core.proofs.Rooms.{last_alike, room_begun}
use Rattle.farm_core.proofs.farm.Farm.begin.Goals as goal

pub invariant_of-self : goal.invariant_of-self
invariant_of-self g c =
    let at = subst (λ (f : FarmSeen g.row.D.Denot). IsKeyOf f.plan c.args.key) (sym c.self.view_is) c.requires.key in
    let free = subst (λ (f : FarmSeen g.row.D.Denot). length f.taken < f.plan.workers) (sym c.self.view_is) c.requires.free in
    let more = subst (λ (f : FarmSeen g.row.D.Denot). f.counts.jobs < f.counts.turns) (sym c.self.view_is) c.requires.more in
    let popped : c.self.inside.spares.items ≡ c.pop.new.self.items ++ c.unwrap-share.result ∷ [] = search rules in
    room_begun _ _ _ c.unwrap-share.result _ _ _ _ _ _ _ _ _ c.args.key c.self.invariant free more at popped c.push_reserved.ensures.items c.pop.ensures.capacity c.push_reserved.ensures.capacity

pub returns-clause-job : goal.returns-clause-job
returns-clause-job g c =
    let at = subst (λ (f : FarmSeen g.row.D.Denot). IsKeyOf f.plan c.args.key) (sym c.self.view_is) c.requires.key in
    let popped : c.self.inside.spares.items ≡ c.pop.new.self.items ++ c.unwrap-share.result ∷ [] = search rules in
    let same = last_alike c.self.inside.own c.self.inside.spares.items c.pop.new.self.items c.unwrap-share.result c.self.invariant.are_spares.alike popped in
    let styled = styled_at c.self.inside.own.plan c.self.inside.styled.items c.args.key at c.self.invariant.styles c.index-styled.result.now c.index-styled.ensures in
    subst (λ (f : FarmSeen g.row.D.Denot). IsJobFor f c.args.worker c.new.result) c.self.view_is
    (job_for _ c.unwrap-share.result c.args.worker c.args.key c.index-styled.result.now c.new.result same styled c.new.ensures.job c.new.ensures.tile)
