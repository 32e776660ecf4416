-- The steps of a beginning.
use Rattle.std.specs.Prelude.{◌≡◌, ◌⊎◌, ℕ, ◌<◌, Bool, List, [], length, Option, Result, Ok, Err}
use Rattle.farm_base.specs.Limits.{most_turns}
use Rattle.farm_base.specs.Outside.{Outside}
use Rattle.farm_base.specs.declared.memory.NoMemory.{NoMemory}
use Rattle.tile_store.specs.Stores.{StoreTold, StorePuts}
use Rattle.tile_store.specs.declared.stores.StoreFault.{StoreFault}
use Rattle.tile_store.specs.declared.stores.StoreFault.TheVariants as fault
use Rattle.exit_status.specs.Stops.{refused_line}
use Rattle.exit_status.specs.declared.stops.Stop.{Stop}
use Rattle.exit_status.specs.declared.stops.Stop.TheVariants as stop
use Rattle.farm_history.specs.Replays.{Saving}
use Rattle.farm_history.specs.Entries.{Entry}
use Rattle.farm_plan.specs.Plans.{FarmPlan}
use Rattle.farm_refinement.specs.Seen.{FarmSeen}
use Rattle.farm_refinement.specs.Stands.{StandsFor}
use Rattle.farm_core.specs.Begins.{Begins, origin}
use Rattle.tile_paths.specs.Paths.{saved_path}
use Rattle.farm_call.specs.Beginnings.{RefusesFor, resumed_by}

-- why a call ends in which the store did not do what it was asked
abbrev pub stop_of : StoreFault → Stop
stop_of fault.Failed = stop.StoreFailed
stop_of fault.NoMemory = stop.NoMemory

-- the refusal of what is saved for a fault with this text; or memory is wanting
abbrev pub Tells : Result (List ℕ) NoMemory → Stop → Type 0
Tells (Ok text) why = (why ≡ stop.NoMemory) ⊎ (why ≡ stop.Refused (refused_line saved_path text))
Tells (Err wanting) why = why ≡ stop.NoMemory

-- a farm was begun by what was found
pub record BeganWith {D : Type 0} (state : D → Outside StoreTold) (plan : FarmPlan) (store : D)
    (found : Option (List ℕ)) (farm : FarmSeen D) : Type 0 where
  pub saved : Option Saving
  pub said : resumed_by plan found ≡ Ok saved
  pub begins : Begins state plan saved store farm
  pub short : length (origin plan saved) < most_turns

-- why none was
abbrev pub Refuses : FarmPlan → Option (List ℕ) → Stop → Type 0
Refuses plan found (stop.Refused line) =
    (why : Option (List ℕ)) × (resumed_by plan found ≡ Err why) × RefusesFor why line
Refuses plan found stop.NoMemory = Unit {0}
Refuses plan found other = ⊥

-- one of both; the store comes back as it was
abbrev pub BeganBy : {D : Type 0} → (D → Outside StoreTold) → FarmPlan → D → Option (List ℕ)
    → Result (FarmSeen D) (D × Stop) → Type 0
BeganBy state plan store found (Ok farm) = BeganWith state plan store found farm
BeganBy state plan store found (Err back) = (back.0 ≡ store) × Refuses plan found back.1

-- no bytes were put in the place of what was saved: the farm is as it was but for its store; or why
-- not
abbrev pub Empties : {D : Type 0} → (D → Outside StoreTold) → FarmSeen D
    → Result (FarmSeen D) (D × Stop) → Type 0
Empties state old (Ok new) =
    StorePuts (state old.store) (state new.store) saved_path [] (Ok tt)
    × (new ≡ record old { store = new.store })
    × ((store_tells : Bool) (h : List Entry) → StandsFor state store_tells old h
    → StandsFor state store_tells new h)
Empties state old (Err back) =
    (why : StoreFault) × StorePuts (state old.store) (state back.0) saved_path [] (Err why)
    × (back.1 ≡ stop_of why)
