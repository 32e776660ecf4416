-- A version replayed: its clean metatiles, and then the update that ended it.
use Rattle.std.proofs.Common.{◌≡◌, ℕ, ◌+◌, ◌*◌, ◌<◌, List, length, None, Ok, sym, ap, ◌∙◌, subst, arith}
use Rattle.std.specs.Prelude.{option_map}
use Rattle.farm_base.specs.Outside.{Outside}
use Rattle.tile_store.specs.Stores.{StoreTold}
use Rattle.plain_shapes.specs.Data.{update_result}
use Rattle.farm_history.specs.declared.keys.Key.{Key}
use Rattle.farm_history.specs.declared.keys.Kept.{Kept}
use Rattle.farm_history.specs.declared.saved.Past.{Past}
use Rattle.farm_history.specs.Entries.{Entry}
use Rattle.farm_history.specs.Seen.{dirtied}
use Rattle.farm_history.specs.Replays.{past_number, replay_keys, replay_change}
use Rattle.farm_plan.specs.Plans.{FarmPlan}
use Rattle.farm_plan.specs.Drawings.{plan_of, update_of}
use Rattle.expiry_lists.specs.Marks.{mark_of}
use Rattle.farm_refinement.proofs.Marking.{dirtied_at}
use Rattle.reach_box.specs.Marks.{is_reached}
use Rattle.farm_refinement.specs.Seen.{FarmSeen}
use Rattle.farm_core.specs.inner.Replays.{IsReplaying, Stays, IsFresh, how_many_of, ReplaysChange, ReplaysVersion}
use Rattle.farm_core.proofs.Replaying.{change_step}

applied_of : {D : Type 0} (old new : FarmSeen D) (c : Past) → ReplaysChange old new c → update_result (update_of old.plan (past_number c)) old.data_now ≡ Ok new.data_now
applied_of old new (Past.Update n) d = d.0
applied_of old new (Past.Renew n) d = d.1.applied

version_of : {D : Type 0} (old new : FarmSeen D) (c : Past) → ReplaysChange old new c → new.counts.version ≡ old.counts.version + 1
version_of {D} old new (Past.Update n) d = ap (λ (f : FarmSeen D). f.counts.version) d.1
version_of {D} old new (Past.Renew n) d = ap (λ (f : FarmSeen D). f.counts.version) d.1.rest

turns_of : {D : Type 0} (old new : FarmSeen D) (c : Past) → ReplaysChange old new c → new.counts.turns ≡ old.counts.turns + 1
turns_of {D} old new (Past.Update n) d = ap (λ (f : FarmSeen D). f.counts.turns) d.1
turns_of {D} old new (Past.Renew n) d = ap (λ (f : FarmSeen D). f.counts.turns) d.1.rest

-- what is not shown is not shown by an update
unshown : {D : Type 0} (old new : FarmSeen D) (c : Past) (k : Key) → ReplaysChange old new c → mark_of old.marks.shown k ≡ None → mark_of new.marks.shown k ≡ None
unshown {D} old new (Past.Update n) k d none = ap (λ (f : FarmSeen D). mark_of f.marks.shown k) d.1 ∙ none
unshown {D} old new (Past.Renew n) k d none =
    ap (λ ms. mark_of ms k) d.1.marks.shown ∙ (dirtied_at (is_reached old.plan.maps d.1.boxes) old.marks.shown k ∙ ap (option_map (dirtied (is_reached old.plan.maps d.1.boxes k))) none)

pub version_done : {D : Type 0} (state : D → Outside StoreTold) (old mid new : FarmSeen D) (v : ℕ) (c : Past) (clean : List Kept) →
    v ≡ old.counts.version → past_number c < length old.plan.updates → ((g : List Entry) → IsReplaying state old g → IsReplaying state mid (replay_keys v clean g)) →
    IsFresh (v + 1) 0 clean mid.marks.shown → mid.counts.turns ≡ old.counts.turns + 4 * how_many_of v clean →
    (mid.counts.version ≡ old.counts.version) × (mid.data_now ≡ old.data_now) → Stays old mid → ReplaysChange mid new c → ReplaysVersion state old new v c clean
version_done {D} state old mid new v c clean is lt keys fresh turns same stays d = record {
  applied = ap (λ (p : FarmPlan). update_result (update_of p (past_number c)) old.data_now) (sym stays.plan) ∙ (ap (λ layers. update_result (update_of mid.plan (past_number c)) layers) (sym same.1) ∙ applied_of mid new c d);
  version = let one = version_of mid new c d in let before = same.0 in omega (arith, one, before, is);
  turns = let one = turns_of mid new c d in omega (arith, one, turns);
  fresh = λ j x at left. unshown mid new c x.key d (fresh j x at left);
  replayed = λ g r. subst (λ (p : FarmPlan). IsReplaying state new (replay_change (plan_of p) c (replay_keys v clean g))) stays.plan
      (change_step state mid new (replay_keys v clean g) c (subst (λ (p : FarmPlan). past_number c < length p.updates) (sym stays.plan) lt) d (keys g r));
}
