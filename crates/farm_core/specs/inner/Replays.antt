-- How a farm is brought to where what was saved of it was saved, step by step.
use Rattle.std.specs.Prelude.{ℕ, ◌+◌, ◌*◌, ◌≡◌, ◌≢◌, Ok, Err, Bool, true, false, ◌&&◌, ◌||◌, ◌==◌, nat_lt, nat_le, List, [], count_by, slice_get, Some, None, MatchBool}
use Rattle.farm_base.specs.Outside.{Outside}
use Rattle.tile_store.specs.Stores.{StoreTold}
use Rattle.farm_base.specs.declared.faults.ApplyFault.{ApplyFault}
use Rattle.plain_world.specs.World.{IsMeta}
use Rattle.plain_shapes.specs.Data.{update_result}
use Rattle.farm_history.specs.declared.keys.Kept.{Kept}
use Rattle.farm_history.specs.declared.saved.Past.{Past}
use Rattle.farm_history.specs.Entries.{Entry}
use Rattle.farm_history.specs.Past.{is_stopped, flights, waiting, open_asks}
use Rattle.farm_history.specs.Rules.{Legal}
use Rattle.farm_history.specs.Replays.{Saving, past_number, replay_change, replay_keys}
use Rattle.farm_plan.specs.Plans.{FarmPlan}
use Rattle.farm_plan.specs.Drawings.{plan_of, update_of}
use Rattle.expiry_lists.specs.Marks.{Shown, mark_of}
use Rattle.farm_refinement.specs.Seen.{FarmSeen}
use Rattle.farm_refinement.specs.Stands.{failures, StandsFor}
use Rattle.farm_refinement.specs.inner.Events.{no_counts, new_farm, replayed_counts}
use Rattle.render_jobs.specs.declared.faults.ResumeFault.{ResumeFault}
use Rattle.render_jobs.specs.Given.{styles_given}
use Rattle.render_jobs.specs.Faults.{can_show, refused_at}
use Rattle.farm_core.specs.inner.Effects.{turn, Advances, MarksBut}
use Rattle.farm_core.specs.inner.Renews.{Renews}

-- A farm in the midst of its replay: it stands for the history, which is legal whatever is told of the store; nothing waits, is drawn or is open in it, and no call on the store failed
pub record IsReplaying {D : Type 0} (state : D → Outside StoreTold) (farm : FarmSeen D)
    (g : List Entry) : Type 0 where
  pub legal : (store_tells : Bool) → Legal (plan_of farm.plan) store_tells g
  pub running : is_stopped g ≡ false
  pub grounded : flights g ≡ []
  pub idle : waiting (plan_of farm.plan) g ≡ []
  pub answered : open_asks g ≡ []
  pub stands : StandsFor state false farm g
  pub unfailed : failures farm.plan g ≡ []

-- what a replay leaves as it is
pub record Stays {D : Type 0} (old new : FarmSeen D) : Type 0 where
  pub plan : new.plan ≡ old.plan
  pub saved : new.saved ≡ old.saved
  pub first : new.first ≡ old.first
  pub store : new.store ≡ old.store

-- a farm of the plan over the store as its replay begins: its maps have been given the styles that were saved
pub record IsAnew {D : Type 0} (plan : FarmPlan) (s : Saving) (store : D) (farm : FarmSeen D)
    : Type 0 where
  pub is : farm ≡ record (new_farm plan (Some s) store s.styles farm.marks) {
    counts = record no_counts { turns = styles_given s.styles };
  }
  pub unmarked : farm.marks.shown ≡ []

-- a clean metatile that the plan has
pub record CanReplay (plan : FarmPlan) (x : Kept) : Type 0 where
  pub shows : can_show plan x.key ≡ true
  pub meta : IsMeta x.key.meta

-- whether the entry at place j is still to be replayed, where those of smaller versions and those of version v before place i are done
abbrev pub is_left : ℕ → ℕ → ℕ → Kept → Bool
is_left v i j x = nat_lt v x.version || ((x.version == v) && nat_le i j)

-- what is still to be replayed is not shown yet
abbrev pub IsFresh : ℕ → ℕ → List Kept → List Shown → Type 0
IsFresh v i clean shown =
    (j : ℕ) (x : Kept) → slice_get clean j ≡ Some x → is_left v i j x ≡ true
    → mark_of shown x.key ≡ None

-- how many entries are of that version, and of that or a greater one
abbrev pub how_many_of : ℕ → List Kept → ℕ
how_many_of v clean = count_by (λ x. x.version == v) clean

abbrev pub how_many_from : ℕ → List Kept → ℕ
how_many_from v clean = count_by (λ x. nat_le v x.version) clean

-- the key is shown, clean and over the newest data, as after an ask, a claim, an end and a collect
pub record Replayed {D : Type 0} (old new : FarmSeen D) (x : Kept) : Type 0 where
  pub marks : MarksBut old.marks new.marks x.key
      (Some (record { version = old.counts.version; clean = true }))
  pub rest : new ≡ record old { counts = replayed_counts old.counts; marks = new.marks }

-- so it is where the entry is of that version; else nothing has changed
abbrev pub ReplaysAt : {D : Type 0} → ℕ → FarmSeen D → FarmSeen D → Kept → Type 0
ReplaysAt v old new x = MatchBool (x.version == v) (Replayed old new x) (new ≡ old)

-- the update was made again, as it was made
abbrev pub ReplaysChange : {D : Type 0} → FarmSeen D → FarmSeen D → Past → Type 0
ReplaysChange old new (Past.Update n) = Advances (turn old) new n (Past.Update n)
ReplaysChange old new (Past.Renew n) = (count : ℕ) × Renews (turn old) new n count

-- a version was replayed: its clean metatiles, and then the update that ended it
pub record ReplaysVersion {D : Type 0} (state : D → Outside StoreTold) (old new : FarmSeen D)
    (v : ℕ) (c : Past) (clean : List Kept) : Type 0 where
  pub applied : update_result (update_of old.plan (past_number c)) old.data_now ≡ Ok new.data_now
  pub version : new.counts.version ≡ v + 1
  pub turns : new.counts.turns ≡ old.counts.turns + 4 * how_many_of v clean + 1
  pub fresh : IsFresh (v + 1) 0 clean new.marks.shown
  pub replayed : (g : List Entry) → IsReplaying state old g
      → IsReplaying state new (replay_change (plan_of old.plan) c (replay_keys v clean g))

-- want of memory, or the fault of the update over the data
pub record RefusesAt {D : Type 0} (farm : FarmSeen D) (v : ℕ) (c : Past) (e : ResumeFault)
    : Type 0 where
  pub fault : ApplyFault
  pub is : e ≡ refused_at v fault
  pub refused : fault ≢ ApplyFault.NoMemory
      → update_result (update_of farm.plan (past_number c)) farm.data_now ≡ Err fault
