-- The first farm of the plan takes up what was saved.
use Rattle.std.proofs.Common.{◌≡◌, Some, None, sym, ◌∙◌, subst}
use Rattle.farm_plan.specs.Plans.{FarmPlan, IsPlan}
use Rattle.render_jobs.specs.Faults.{resume_fault}
use Rattle.farm_core.specs.Begins.{Begins}
use Rattle.farm_core.proofs.Resumed.{first, begins_well, no_first_fault}
use Rattle.farm_core.proofs.farm.Farm.resume.Goals as goal

pub take_up-requires-clause-plan : goal.take_up-requires-clause-plan
take_up-requires-clause-plan g c = subst IsPlan (sym (first c.args.plan c.args.store c.in-Ok.farm c.in-Ok.ensures.started).plan_is) c.requires.plan

pub take_up-requires-clause-started : goal.take_up-requires-clause-started
take_up-requires-clause-started g c = (first c.args.plan c.args.store c.in-Ok.farm c.in-Ok.ensures.started).started

pub returns-in-Ok-take_up-clause-begins : goal.returns-in-Ok-take_up-clause-begins
returns-in-Ok-take_up-clause-begins g c =
    let a = first c.args.plan c.args.store c.in-Ok.farm c.in-Ok.ensures.started in
    subst (λ (d : g.row.D.Denot). Begins g.D.TileStore.state c.args.plan (Some c.args.saved.now) d c.take_up.new.self) a.store_is
    (subst (λ (p : FarmPlan). Begins g.D.TileStore.state p (Some c.args.saved.now) c.in-Ok.farm.store c.take_up.new.self) a.plan_is c.in-Ok-take_up.ensures.begins)

pub returns-in-Ok-take_up-clause-well : goal.returns-in-Ok-take_up-clause-well
returns-in-Ok-take_up-clause-well g c =
    let a = first c.args.plan c.args.store c.in-Ok.farm c.in-Ok.ensures.started in
    let fits = subst (λ (p : FarmPlan). resume_fault p c.args.saved.now ≡ None) a.plan_is c.in-Ok-take_up.ensures.fits in
    begins_well c.args.plan c.args.saved.now c.requires.plan (no_first_fault c.args.plan c.args.saved.now fits) c.requires.short

pub returns-in-Ok-take_up-clause-fits : goal.returns-in-Ok-take_up-clause-fits
returns-in-Ok-take_up-clause-fits g c =
    let a = first c.args.plan c.args.store c.in-Ok.farm c.in-Ok.ensures.started in
    subst (λ (p : FarmPlan). resume_fault p c.args.saved.now ≡ None) a.plan_is c.in-Ok-take_up.ensures.fits

pub returns-in-Err-take_up-clause-refused : goal.returns-in-Err-take_up-clause-refused
returns-in-Err-take_up-clause-refused g c = λ some.
    let a = first c.args.plan c.args.store c.in-Ok.farm c.in-Ok.ensures.started in
    subst (λ (p : FarmPlan). resume_fault p c.args.saved.now ≡ Some c.in-Err-take_up.fault) a.plan_is (c.in-Err-take_up.ensures.refused some)

pub returns-in-Err-take_up-clause-store : goal.returns-in-Err-take_up-clause-store
returns-in-Err-take_up-clause-store g c =
    let a = first c.args.plan c.args.store c.in-Ok.farm c.in-Ok.ensures.started in
    c.into_store.ensures ∙ (c.in-Err-take_up.ensures.store ∙ a.store_is)
