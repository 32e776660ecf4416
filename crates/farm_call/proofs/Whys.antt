-- Why work on a store may end early.
use Rattle.std.proofs.Common.{◌≡◌, ℕ, ◌≤◌, List, length, true, sym, subst}
use Rattle.std.specs.Prelude.{Option, Err, is_some}
use Rattle.farm_base.specs.Limits.{most_turns}
use Rattle.farm_base.specs.Outside.{Outside, Rose}
use Rattle.tile_store.specs.Stores.{StoreTold}
use Rattle.farm_history.specs.Entries.{Entry}
use Rattle.farm_refinement.specs.Seen.{FarmSeen}
use Rattle.farm_refinement.specs.Stands.{StandsFor}
use Rattle.script_text.specs.ScriptTexts.{has_failed}
use Rattle.exit_status.specs.declared.stops.Stop.{Stop}
use Rattle.exit_status.specs.declared.stops.Stop.TheVariants as stop
use Rattle.farm_files.proofs.Courses.{ended}
use Rattle.script_text.proofs.Lost.{lost}
use Rattle.farm_files.specs.Inputs.{ServeInputs}
use Rattle.farm_call.specs.Beginnings.{RefusesFor, IsSavedIn}
use Rattle.farm_call.specs.inner.Serving.{World}
use Rattle.farm_call.specs.declared.left.Left.{Left}
use Rattle.farm_call.specs.declared.left.Left.TheVariants.{Store, Farm}
use Rattle.farm_call.specs.Serves.{ClosedFarm}
use Rattle.farm_call.specs.Call.{Work, serves, store_of, PortsRose}

-- a put on out failed, or a call of the store, or memory was wanting
abbrev pub StoreWhys : Type 0 → Type 0 → Stop → Type 0
StoreWhys unput lost stop.SinkFailed = unput
StoreWhys unput lost stop.StoreFailed = lost
StoreWhys unput lost stop.NoMemory = Unit {0}
StoreWhys unput lost other = ⊥

-- an end is the end that it is
pub by_end : (P Q : Type 0) (s q : Stop) → ended {A = Unit {0}} q ≡ ended {A = Unit {0}} s → StoreWhys P Q s → StoreWhys P Q q
by_end P Q s q e why = let same : s ≡ q = cc in subst (StoreWhys P Q) same why

-- a history in which a call of the store failed: the count rose
pub store_rose : {D : Type 0} (state : D → Outside StoreTold) (store store' : D) (farm : FarmSeen D) → farm.first ≡ store → farm.store ≡ store' → (h : List Entry)
    → StandsFor state (is_some (state store).told) farm h → has_failed h ≡ true → Rose (state store).faults (state store').faults
store_rose {D} state store store' farm first_is store_is h stands failed =
    subst (λ (x : D). Rose (state store).faults (state x).faults) store_is
    (subst (λ (x : D). Rose (state x).faults (state farm.store).faults) first_is (lost state (is_some (state store).told) farm h stands failed))

module _ {D : Type 0} (state : D → Outside StoreTold) where
  -- a call of the store failed
  abbrev pub Lost : World D → World D → Type 0
  Lost old new = Rose (state (store_of old.left)).faults (state (store_of new.left)).faults

  -- a farm is left whose history has used up all turns
  abbrev pub TurnsGone : World D → Type 0
  TurnsGone new = (closed : ClosedFarm D) × (new.left ≡ Farm closed) × (most_turns ≤ length closed.1)

  -- what is saved is refused by this line, in the work of serving a farm: the store shows what it showed, and all else is as it was
  pub record FaultSaved (work : Work) (line : List ℕ) (old new : World D) : Type 0 where
    pub served : ServeInputs
    pub is_work : work ≡ serves served
    pub resume : served.config.resume ≡ true
    pub why : Option (List ℕ)
    pub fault : IsSavedIn (state (store_of old.left)) served.inputs.plan (Err why)
    pub line_is : RefusesFor why line
    pub out : new.out ≡ old.out
    pub ports : new.ports ≡ old.ports
    pub store : D
    pub left : new.left ≡ Store store
    pub shows : state store ≡ state (store_of old.left)

  -- why work ends early
  abbrev pub Why : Work → Stop → World D → World D → Type 0
  Why work stop.Words old new = ⊥
  Why work (stop.Unreadable line) old new = ⊥
  Why work (stop.Refused line) old new = FaultSaved work line old new
  Why work stop.SinkFailed old new = Rose old.out.faults new.out.faults
  Why work stop.NoMemory old new = Unit {0}
  Why work stop.StoreFailed old new = Lost old new
  Why work stop.PortsFailed old new = PortsRose old.ports new.ports
  Why work stop.TurnsUsedUp old new = TurnsGone new

  pub by_store : (work : Work) (w w' : World D) (store store' : D) → w.left ≡ Store store → w'.left ≡ Store store' → (s : Stop)
      → StoreWhys (Rose w.out.faults w'.out.faults) (Rose (state store).faults (state store').faults) s → Why work s w w'
  by_store work w w' store store' old new (stop.Refused line) why = absurd why
  by_store work w w' store store' old new stop.Words why = absurd why
  by_store work w w' store store' old new (stop.Unreadable line) why = absurd why
  by_store work w w' store store' old new stop.SinkFailed why = why
  by_store work w w' store store' old new stop.NoMemory why = tt
  by_store work w w' store store' old new stop.StoreFailed why =
      subst (λ (l : Left D). Rose (state (store_of l)).faults (state (store_of w'.left)).faults) (sym old)
      (subst (λ (l : Left D). Rose (state store).faults (state (store_of l)).faults) (sym new) why)
  by_store work w w' store store' old new stop.PortsFailed why = absurd why
  by_store work w w' store store' old new stop.TurnsUsedUp why = absurd why
