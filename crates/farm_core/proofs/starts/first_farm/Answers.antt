use Rattle.std.proofs.Common.{◌≡◌, ap, subst}
use Rattle.farm_plan.specs.Plans.{FarmPlan}
use Rattle.render_jobs.specs.Shared.{ShareSeen}
use Rattle.farm_core.specs.inner.Starts.{IsStarted}
use Rattle.farm_core.proofs.starts.first_farm.Goals as goal

pub returns-in-Ok-clause-started : goal.returns-in-Ok-clause-started
returns-in-Ok-clause-started g c =
    let plan_is : c.in-Ok.parts.own.plan ≡ c.args.plan = ap (λ (s : ShareSeen). s.plan) c.in-Ok.ensures.own_is in
    subst (λ (p : FarmPlan). IsStarted p c.args.store c.begin.result) plan_is c.begin.ensures
