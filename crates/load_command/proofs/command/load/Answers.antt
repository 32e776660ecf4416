use Rattle.std.proofs.Common.{inl, subst}
use Rattle.std.specs.Prelude.{None}
use Rattle.farm_plan.specs.Plans.{FarmPlan}
use Rattle.farm_core.specs.Begins.{Begins}
use Rattle.load_command.proofs.command.load.Goals as goal

pub run_on-requires-clause-begins : goal.run_on-requires-clause-begins
run_on-requires-clause-begins g c =
    (c.args.store, subst (λ (p : FarmPlan). Begins g.D.TileStore.state p None c.args.store c.in-Ok-start.farm) c.in-Ok.ensures.value c.in-Ok-start.ensures.begins)

pub returns-in-Ok-start : goal.returns-in-Ok-start
returns-in-Ok-start g c =
    inl (c.run_on.ensures c.args.store (subst (λ (p : FarmPlan). Begins g.D.TileStore.state p None c.args.store c.in-Ok-start.farm) c.in-Ok.ensures.value c.in-Ok-start.ensures.begins))
