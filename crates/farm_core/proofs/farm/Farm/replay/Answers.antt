-- One version after another.
use Rattle.std.proofs.Common.{◌≡◌, ◌≢◌, ℕ, ◌∙◌, List, Some, get_or, drop, length, sym, ap, subst, arith}
use Rattle.std.proofs.lemmas.Option.{slice_get-get_or, get_or_from_slice_get}
use Rattle.std.proofs.lemmas.List.{at_drop_more}
use Rattle.plain_shapes.specs.Data.{update_result}
use Rattle.farm_history.specs.declared.saved.Past.{Past}
use Rattle.farm_history.specs.Entries.{Entry}
use Rattle.farm_history.specs.Replays.{past_number, replay_keys}
use Rattle.farm_plan.specs.Drawings.{plan_of, update_of}
use Rattle.farm_plan.specs.Plans.{FarmPlan}
use Rattle.farm_refinement.specs.Seen.{FarmSeen}
use Rattle.render_jobs.specs.declared.faults.ResumeFault.{ResumeFault}
use Rattle.render_jobs.specs.Faults.{apply_fault}
use Rattle.farm_core.specs.inner.Replays.{IsReplaying}
use Rattle.farm_core.proofs.Replaying.{stays_then, many_split}
use Rattle.render_jobs.proofs.Checked.{if_err}
use Rattle.farm_core.proofs.Replayed.{fault_more, fault_here, fault_none, few_from, versions_more, versions_all}
use Rattle.farm_core.proofs.farm.Farm.replay.Goals as goal

abbrev nowhen : Past
nowhen = Past.Update 0

pub replay_version-requires-clause-turns : goal.replay_version-requires-clause-turns
replay_version-requires-clause-turns g c =
    let few = few_from 0 c.args.clean.now in
    let split = many_split c.loop-place.place c.args.clean.now in
    let so_far = c.loop-place.invariant.turns in
    omega (arith, few, split, so_far, c.requires.turns)

pub returns-in_err-replay_version-clause-refused : goal.returns-in_err-replay_version-clause-refused
returns-in_err-replay_version-clause-refused g c =
    let place = c.loop-place.place in
    let x : Past = get_or c.args.updates.now place nowhen in
    let at = slice_get-get_or c.args.updates.now place nowhen c.loop-place-test.true in
    let own : x ≡ get_or c.args.updates.now place x = sym (get_or_from_slice_get c.args.updates.now place x x at) in
    let fault = c.in_err-replay_version.field-0.0 in
    let refused = c.in_err-replay_version.ensures.refused in
    let shown : (e : ResumeFault) → e ≡ fault → e ≢ ResumeFault.NoMemory → apply_fault c.args.self.now.plan c.args.self.now.data_now 0 c.args.updates.now ≡ Some e = λ e same some.
    c.loop-place.invariant.fault ∙ (ap (λ (p : FarmPlan). apply_fault p c.loop-place.self.data_now place (drop place c.args.updates.now)) (sym c.loop-place.invariant.stays.plan)
    ∙ (fault_here c.loop-place.self place c.args.updates.now x fault c.loop-place-test.true own refused (λ none. some (same ∙ none)) ∙ ap (λ y. Some y) (sym same))) in
    if_err c.from_residual.result (λ e. e ≡ fault) (λ e. e ≢ ResumeFault.NoMemory → apply_fault c.args.self.now.plan c.args.self.now.data_now 0 c.args.updates.now ≡ Some e) c.from_residual.ensures.1 shown

pub loop-place-preserved : goal.loop-place-preserved
loop-place-preserved g c =
    let place = c.loop-place.place in
    let x : Past = get_or c.args.updates.now place nowhen in
    let at = slice_get-get_or c.args.updates.now place nowhen c.loop-place-test.true in
    let own : x ≡ get_or c.args.updates.now place x = sym (get_or_from_slice_get c.args.updates.now place x x at) in
    let done = c.in_ok-replay_version.ensures.done in
    let long = at_drop_more (λ (cs : List Past). length cs) c.args.updates.now place x c.loop-place-test.true in
    let split = many_split place c.args.clean.now in
    let so_far = c.loop-place.invariant.turns in
    let more = done.turns in
    record {
      stays = stays_then c.args.self.now c.loop-place.self c.replay_version.new.self c.loop-place.invariant.stays c.in_ok-replay_version.ensures.stays;
      version = done.version;
      fresh = done.fresh;
      turns = omega (arith, long, split, so_far, more);
      fault = c.loop-place.invariant.fault ∙ fault_more c.args.self.now.plan c.loop-place.self.data_now c.replay_version.new.self.data_now place c.args.updates.now x c.loop-place-test.true own
          (ap (λ (p : FarmPlan). update_result (update_of p (past_number x)) c.loop-place.self.data_now) (sym c.loop-place.invariant.stays.plan) ∙ done.applied);
      replaying = λ h r. versions_more g.D.TileStore.state (plan_of c.args.self.now.plan) c.loop-place.self c.replay_version.new.self c.args.clean.now place c.args.updates.now x h (ap plan_of c.loop-place.invariant.stays.plan) c.loop-place-test.true own done (c.loop-place.invariant.replaying h r);
    }

pub returns-clause-replayed : goal.returns-clause-replayed
returns-clause-replayed g c =
    let is : c.self.inside.counts.version ≡ c.loop-place.place = ap (λ (f : FarmSeen g.row.D.Denot). f.counts.version) c.self.view_is ∙ c.loop-place.invariant.version in
    let keys = subst (λ (v : ℕ). (h : List Entry) → IsReplaying g.D.TileStore.state c.loop-place.self h → IsReplaying g.D.TileStore.state c.replay_keys.new.self (replay_keys v c.args.clean.now h)) is c.in_ok-replay_keys.ensures.replayed in
    λ h r. versions_all g.D.TileStore.state (plan_of c.args.self.now.plan) c.loop-place.self c.replay_keys.new.self c.args.clean.now c.loop-place.place c.args.updates.now h c.loop-place-test.false keys (c.loop-place.invariant.replaying h r)

pub returns-clause-fits : goal.returns-clause-fits
returns-clause-fits g c = c.loop-place.invariant.fault ∙ fault_none c.args.self.now.plan c.loop-place.self.data_now c.loop-place.place c.args.updates.now c.loop-place-test.false
