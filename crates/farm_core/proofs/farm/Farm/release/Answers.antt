use Rattle.std.proofs.Common.{◌≡◌, ◌==◌, Some, sym, ap, ◌∙◌, subst}
use Rattle.farm_refinement.specs.Seen.{FarmSeen}
use Rattle.farm_plan.specs.Jobs.{JobSeen}
use Rattle.farm_refinement.specs.inner.Events.{taken_at}
use Rattle.farm_core.proofs.Rooms.{room_released, same_share, share_newest}
use Rattle.farm_core.proofs.farm.Farm.release.Goals as goal

pub give_back-requires : goal.give_back-requires
give_back-requires g c = λ newest.
    let found = subst (λ (f : FarmSeen g.row.D.Denot). taken_at f.taken c.args.job.ticket ≡ Some c.requires.taken) (sym c.self.view_is) c.requires.is_taken in
    let version = ap (λ (j : JobSeen). j.version) c.job.view_is ∙ sym c.requires.version_is in
    share_newest c.self.inside.own c.self.inside.counts.version c.args.job.ticket c.job.inside.version c.self.inside.spares.items c.self.inside.taken.items c.requires.taken _ c.self.invariant.are_spares c.self.invariant.are_taken.tickets found version newest c.self.invariant.spares_fit

pub invariant_of-self : goal.invariant_of-self
invariant_of-self g c =
    let found = subst (λ (f : FarmSeen g.row.D.Denot). taken_at f.taken c.args.job.ticket ≡ Some c.requires.taken) (sym c.self.view_is) c.requires.is_taken in
    let version = ap (λ (j : JobSeen). j.version) c.job.view_is ∙ sym c.requires.version_is in
    let ticket = ap (λ (j : JobSeen). j.ticket) c.job.view_is in
    let plan = c.requires.plan_is ∙ ap {A = FarmSeen g.row.D.Denot} (λ f. f.plan) (sym c.self.view_is) in
    let layers = λ (newest : c.requires.taken.version ≡ c.self.inside.counts.version).
    c.requires.data_is (sym c.requires.version_is ∙ newest ∙ ap {A = FarmSeen g.row.D.Denot} (λ f. f.counts.version) c.self.view_is) ∙ ap {A = FarmSeen g.row.D.Denot} (λ f. f.data_now) (sym c.self.view_is) in
    room_released _ _ _ c.into_share.result _ _ c.requires.taken _ _ _ _ _ _ _ c.job.inside.ticket (c.job.inside.version == c.self.inside.counts.version) c.self.invariant
    (subst (λ n. taken_at c.self.inside.taken.items n ≡ Some c.requires.taken) (sym ticket) found) (ap (λ n. n == c.self.inside.counts.version) version)
    (λ newest. same_share c.self.inside.own c.into_share.result c.args.job.plan c.args.job.data_now c.into_share.ensures plan (layers newest))
    c.give_back.ensures.items c.drop_taken.ensures.items c.give_back.ensures.capacity c.drop_taken.ensures.capacity
