use Rattle.std.proofs.Common.{◌≡◌, Some, None, sym, ap, ◌∙◌, subst}
use Rattle.farm_plan.specs.Plans.{FarmPlan}
use Rattle.farm_refinement.specs.Seen.{FarmSeen}
use Rattle.render_jobs.specs.Faults.{form_fault}
use Rattle.farm_core.proofs.Resumed.{first_fault}
use Rattle.farm_core.proofs.farm.Farm.take_up.Goals as goal

pub take_checked-requires-clause-shape : goal.take_checked-requires-clause-shape
take_checked-requires-clause-shape g c =
    subst (λ (p : FarmPlan). form_fault p c.args.saved.now ≡ None) (c.setup.ensures ∙ ap (λ (f : FarmSeen g.row.D.Denot). f.plan) c.self.view_is) (sym c.in-Ok.ensures)

pub returns-in-Err-clause-refused : goal.returns-in-Err-clause-refused
returns-in-Err-clause-refused g c = λ some.
    first_fault c.args.self.now.plan c.args.saved.now c.in-Err.fault
    (subst (λ (p : FarmPlan). form_fault p c.args.saved.now ≡ Some c.in-Err.fault) (c.setup.ensures ∙ ap (λ (f : FarmSeen g.row.D.Denot). f.plan) c.self.view_is) (sym c.in-Err.ensures))
