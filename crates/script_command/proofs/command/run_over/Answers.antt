use Rattle.std.proofs.Common.{ap, sym, subst, ◌∙◌}
use Rattle.std.specs.Prelude.{None}
use Rattle.farm_plan.specs.Plans.{FarmPlan}
use Rattle.farm_core.specs.Begins.{Begins}
use Rattle.script_command.proofs.Ran.{ran_over}
use Rattle.script_command.proofs.command.run_over.Goals as goal

pub run_on-requires : goal.run_on-requires
run_on-requires g c =
    let own = c.in-Ok.ensures.begins.plan_is in
    (c.args.store, subst (λ (p : FarmPlan). Begins g.D.TileStore.state p None c.args.store c.in-Ok.farm) (sym own) c.in-Ok.ensures.begins)

pub returns-in-Ok : goal.returns-in-Ok
returns-in-Ok g c =
    let own = c.in-Ok.ensures.begins.plan_is in
    ran_over _ c.args.scripted _ _ _ _ _ _ _ (ap (λ s. s.script) c.scripted.view_is) (own ∙ ap (λ i. i.plan) c.inputs.view_is ∙ ap (λ s. s.inputs.plan) c.scripted.view_is)
    (subst (λ (p : FarmPlan). Begins g.D.TileStore.state p None c.args.store c.in-Ok.farm) (sym own) c.in-Ok.ensures.begins) c.run_on.ensures
