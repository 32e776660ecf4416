-- The farm begins anew, and then what was saved is replayed.
use Rattle.std.proofs.Common.{◌≡◌, ◌≢◌, Some, None, sym, ap, ◌∙◌, subst}
use Rattle.std.proofs.lemmas.Result.{on_ok_weaker, IfErr-weaker}
use Rattle.farm_plan.specs.Plans.{FarmPlan, IsPlan}
use Rattle.farm_refinement.specs.Seen.{FarmSeen}
use Rattle.render_jobs.specs.declared.faults.ResumeFault.{ResumeFault}
use Rattle.render_jobs.specs.Faults.{form_fault, resume_fault}
use Rattle.render_jobs.proofs.Checked.{shaped}
use Rattle.farm_core.specs.Begins.{Begins}
use Rattle.farm_core.proofs.Resumed.{again}
use Rattle.farm_core.proofs.farm.Farm.take_checked.Goals as goal

pub give_saved-requires-clause-maps : goal.give_saved-requires-clause-maps
give_saved-requires-clause-maps g c = (shaped c.args.self.now.plan c.args.saved.now c.requires.shape).maps

pub replay_saved-requires-clause-plan : goal.replay_saved-requires-clause-plan
replay_saved-requires-clause-plan g c =
    let a = again c.args.self.now.plan c.args.saved.now c.args.self.now.store c.give_saved.new.self c.in-Ok.ensures.anew in
    subst IsPlan (sym a.plan_is) c.requires.plan

pub replay_saved-requires-clause-anew : goal.replay_saved-requires-clause-anew
replay_saved-requires-clause-anew g c = (again c.args.self.now.plan c.args.saved.now c.args.self.now.store c.give_saved.new.self c.in-Ok.ensures.anew).anew

pub replay_saved-requires-clause-shape : goal.replay_saved-requires-clause-shape
replay_saved-requires-clause-shape g c =
    let a = again c.args.self.now.plan c.args.saved.now c.args.self.now.store c.give_saved.new.self c.in-Ok.ensures.anew in
    subst (λ (p : FarmPlan). form_fault p c.args.saved.now ≡ None) (sym a.plan_is) c.requires.shape

pub returns-in-Ok-clause-begins : goal.returns-in-Ok-clause-begins
returns-in-Ok-clause-begins g c =
    let a = again c.args.self.now.plan c.args.saved.now c.args.self.now.store c.give_saved.new.self c.in-Ok.ensures.anew in
    on_ok_weaker c.replay_saved.result
    (λ begins. subst (λ (d : g.row.D.Denot). Begins g.D.TileStore.state c.args.self.now.plan (Some c.args.saved.now) d c.replay_saved.new.self) a.store_is
    (subst (λ (p : FarmPlan). Begins g.D.TileStore.state p (Some c.args.saved.now) c.give_saved.new.self.store c.replay_saved.new.self) a.plan_is begins)) c.replay_saved.ensures.begins

pub returns-in-Ok-clause-fits : goal.returns-in-Ok-clause-fits
returns-in-Ok-clause-fits g c =
    let a = again c.args.self.now.plan c.args.saved.now c.args.self.now.store c.give_saved.new.self c.in-Ok.ensures.anew in
    on_ok_weaker c.replay_saved.result (λ fits. subst (λ (p : FarmPlan). resume_fault p c.args.saved.now ≡ None) a.plan_is fits) c.replay_saved.ensures.fits

pub returns-in-Ok-clause-refused : goal.returns-in-Ok-clause-refused
returns-in-Ok-clause-refused g c =
    let a = again c.args.self.now.plan c.args.saved.now c.args.self.now.store c.give_saved.new.self c.in-Ok.ensures.anew in
    IfErr-weaker c.replay_saved.result (λ e. e ≢ ResumeFault.NoMemory → resume_fault c.give_saved.new.self.plan c.args.saved.now ≡ Some e) (λ e. e ≢ ResumeFault.NoMemory → resume_fault c.args.self.now.plan c.args.saved.now ≡ Some e)
    (λ e is some. subst (λ (p : FarmPlan). resume_fault p c.args.saved.now ≡ Some e) a.plan_is (is some)) c.replay_saved.ensures.refused

pub returns-in-Ok-clause-store : goal.returns-in-Ok-clause-store
returns-in-Ok-clause-store g c =
    let a = again c.args.self.now.plan c.args.saved.now c.args.self.now.store c.give_saved.new.self c.in-Ok.ensures.anew in
    c.replay_saved.ensures.store ∙ a.store_is

pub returns-in-Err-clause-store : goal.returns-in-Err-clause-store
returns-in-Err-clause-store g c = ap (λ (f : FarmSeen g.row.D.Denot). f.store) c.in-Err.ensures.same
