-- One version after another.
use Rattle.std.proofs.Common.{◌≡◌, ◌≢◌, ℕ, ◌+◌, ◌<◌, ◌≤◌, nat_le, List, length, get_or, drop, Option, Some, None, Result, Ok, Err, refl, sym, ap, ◌∙◌, subst}
use Rattle.std.proofs.lemmas.List.{at_drop_more, at_drop_all}
use Rattle.std.proofs.lemmas.List.Sums.{count_by-le-length}
use Rattle.farm_base.specs.Outside.{Outside}
use Rattle.farm_base.specs.declared.faults.ApplyFault.{ApplyFault}
use Rattle.tile_store.specs.Stores.{StoreTold}
use Rattle.plain_shapes.specs.Features.{Layer}
use Rattle.plain_shapes.specs.Data.{update_result}
use Rattle.farm_history.specs.declared.keys.Kept.{Kept}
use Rattle.farm_history.specs.declared.saved.Past.{Past}
use Rattle.farm_history.specs.Entries.{Entry}
use Rattle.farm_history.specs.Plans.{Plan}
use Rattle.farm_history.specs.Replays.{past_number, replay_keys, replay_change, replay_from}
use Rattle.farm_plan.specs.Plans.{FarmPlan}
use Rattle.farm_plan.specs.Drawings.{plan_of, update_of}
use Rattle.farm_refinement.specs.Seen.{FarmSeen}
use Rattle.render_jobs.specs.declared.faults.ResumeFault.{ResumeFault}
use Rattle.render_jobs.specs.Faults.{refused_at, update_fault, apply_fault}
use Rattle.farm_core.specs.inner.Replays.{IsReplaying, how_many_from, ReplaysVersion, RefusesAt}

-- ---- faults

pub fault_more : (plan : FarmPlan) (layers new : List Layer) (v : ℕ) (updates : List Past) (c : Past) → v < length updates → c ≡ get_or updates v c → update_result (update_of plan (past_number c)) layers ≡ Ok new → apply_fault plan layers v (drop v updates) ≡ apply_fault plan new (v + 1) (drop (v + 1) updates)
unfolding apply_fault
fault_more plan layers new v updates c lt at is =
    at_drop_more (λ cs. apply_fault plan layers v cs) updates v c lt
    ∙ (ap (λ (x : Past). update_fault v (update_result (update_of plan (past_number x)) layers) (λ n. apply_fault plan n (v + 1) (drop (v + 1) updates))) (sym at)
    ∙ ap (λ r. update_fault v r (λ n. apply_fault plan n (v + 1) (drop (v + 1) updates))) is)

told_at : (v : ℕ) (f : ApplyFault) (layers : Result (List Layer) ApplyFault) (later : List Layer → Option ResumeFault) → refused_at v f ≢ ResumeFault.NoMemory → (f ≢ ApplyFault.NoMemory → layers ≡ Err f) → update_fault v layers later ≡ Some (refused_at v f)
told_at v (ApplyFault.NoLayer n) layers later some is = ap (λ r. update_fault v r later) (is (λ same. cc))
told_at v (ApplyFault.NoFeature n id) layers later some is = ap (λ r. update_fault v r later) (is (λ same. cc))
told_at v (ApplyFault.TooMany n) layers later some is = ap (λ r. update_fault v r later) (is (λ same. cc))
told_at v ApplyFault.NoMemory layers later some is = absurd (some refl)

pub fault_here : {D : Type 0} (farm : FarmSeen D) (v : ℕ) (updates : List Past) (c : Past) (e : ResumeFault) → v < length updates → c ≡ get_or updates v c → RefusesAt farm v c e → e ≢ ResumeFault.NoMemory → apply_fault farm.plan farm.data_now v (drop v updates) ≡ Some e
unfolding apply_fault
fault_here farm v updates c e lt at r some =
    at_drop_more (λ cs. apply_fault farm.plan farm.data_now v cs) updates v c lt
    ∙ (ap (λ (x : Past). update_fault v (update_result (update_of farm.plan (past_number x)) farm.data_now) (λ n. apply_fault farm.plan n (v + 1) (drop (v + 1) updates))) (sym at)
    ∙ (told_at v r.fault (update_result (update_of farm.plan (past_number c)) farm.data_now) (λ n. apply_fault farm.plan n (v + 1) (drop (v + 1) updates)) (λ none. some (r.is ∙ none)) r.refused ∙ ap (λ x. Some x) (sym r.is)))

pub fault_none : (plan : FarmPlan) (layers : List Layer) (v : ℕ) (updates : List Past) → length updates ≤ v → apply_fault plan layers v (drop v updates) ≡ None
unfolding apply_fault
fault_none plan layers v updates all = at_drop_all (λ cs. apply_fault plan layers v cs) updates v all

-- ---- turns

pub few_from : (v : ℕ) (clean : List Kept) → how_many_from v clean ≤ length clean
few_from v clean = count_by-le-length (λ (x : Kept). nat_le v x.version) clean

-- ---- the history

-- so far the farm stands for a history, to which what is left of the updates and keys is to be added
pub record VersionsTo {D : Type 0} (state : D → Outside StoreTold) (p : Plan) (farm : FarmSeen D) (clean : List Kept) (v : ℕ) (updates : List Past) (h : List Entry) : Type 0 where
  pub g : List Entry
  pub to : replay_from p clean 0 updates h ≡ replay_from p clean v (drop v updates) g
  pub replaying : IsReplaying state farm g

pub versions_more : {D : Type 0} (state : D → Outside StoreTold) (p : Plan) (old new : FarmSeen D) (clean : List Kept) (v : ℕ) (updates : List Past) (c : Past) (h : List Entry) → plan_of old.plan ≡ p → v < length updates → c ≡ get_or updates v c → ReplaysVersion state old new v c clean → VersionsTo state p old clean v updates h → VersionsTo state p new clean (v + 1) updates h
unfolding replay_from
versions_more state p old new clean v updates c h is lt at d k = record {
  g = replay_change p c (replay_keys v clean k.g);
  to = k.to ∙ (at_drop_more (λ cs. replay_from p clean v cs k.g) updates v c lt ∙ ap (λ (x : Past). replay_from p clean (v + 1) (drop (v + 1) updates) (replay_change p x (replay_keys v clean k.g))) (sym at));
  replaying = subst (λ (q : Plan). IsReplaying state new (replay_change q c (replay_keys v clean k.g))) is (d.replayed k.g k.replaying);
}

pub versions_all : {D : Type 0} (state : D → Outside StoreTold) (p : Plan) (farm new : FarmSeen D) (clean : List Kept) (v : ℕ) (updates : List Past) (h : List Entry) → length updates ≤ v → ((g : List Entry) → IsReplaying state farm g → IsReplaying state new (replay_keys v clean g)) → VersionsTo state p farm clean v updates h → IsReplaying state new (replay_from p clean 0 updates h)
unfolding replay_from
versions_all state p farm new clean v updates h all keys k = subst (IsReplaying state new) (sym (k.to ∙ at_drop_all (λ cs. replay_from p clean v cs k.g) updates v all)) (keys k.g k.replaying)
