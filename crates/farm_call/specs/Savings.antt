-- What is saved of a farm that stopped in order, so that a later one may begin where it stopped.
use Rattle.std.specs.Prelude.{◌≡◌, ℕ, Bool, true, false, List, Result, Ok, Err}
use Rattle.farm_base.specs.Outside.{Outside}
use Rattle.tile_store.specs.Stores.{StoreTold, StorePuts}
use Rattle.tile_store.specs.declared.stores.StoreFault.{StoreFault}
use Rattle.tile_store.specs.declared.stores.StoreFault.TheVariants as fault
use Rattle.exit_status.specs.declared.stops.Stop.{Stop}
use Rattle.exit_status.specs.declared.stops.Stop.TheVariants as stop
use Rattle.farm_history.specs.Entries.{Entry}
use Rattle.farm_history.specs.Replays.{Saving, IsSaved}
use Rattle.farm_plan.specs.Drawings.{plan_of}
use Rattle.farm_saved.specs.Writing.{saved_bytes}
use Rattle.farm_saved.specs.Reading.{saved_in}
use Rattle.farm_refinement.specs.Seen.{FarmSeen}
use Rattle.farm_shared.specs.Shared.{IsAfter, lasting_of, past}
use Rattle.tile_paths.specs.Paths.{saved_path}

module _ {D : Type 0} (state : D → Outside StoreTold) where
  -- The text of what is saved after the farm's history, which reads as just that, was put in its
  -- place, with this answer
  pub record PutsSaved (farm farm' : FarmSeen D) (log : List (ℕ × Entry))
      (answer : Result (Unit {0}) StoreFault) : Type 0 where
    pub saving : Saving
    pub saved : IsSaved (plan_of farm.plan) (past (lasting_of state farm) log) saving
    pub reads : saved_in (saved_bytes saving) ≡ Ok saving
    pub puts : StorePuts (state farm.store) (state farm'.store) saved_path
        (saved_bytes saving) answer

  -- how the saving went: the put was done; it failed; or memory was wanting, and the store shows
  -- what it showed
  abbrev pub SavesTo : FarmSeen D → FarmSeen D → List (ℕ × Entry) → Result (Unit {0}) Stop → Type 0
  SavesTo farm farm' log (Ok done) = PutsSaved farm farm' log (Ok tt)
  SavesTo farm farm' log (Err stop.StoreFailed) = PutsSaved farm farm' log (Err fault.Failed)
  SavesTo farm farm' log (Err stop.NoMemory) = state farm'.store ≡ state farm.store
  SavesTo farm farm' log (Err other) = ⊥

  -- A farm with this history of turns was saved in its store, or this is why not. But for its store
  -- it is as it was, and it stands for the same history
  pub record Saves (farm farm' : FarmSeen D) (log : List (ℕ × Entry))
      (end : Result (Unit {0}) Stop) : Type 0 where
    pub same : farm' ≡ record farm { store = farm'.store }
    pub after : IsAfter state farm' log
    pub went : SavesTo farm farm' log end

  -- The same where the run ended so and `resume` says whether a farm is to be saved: it is where
  -- the run ended in order, and else nothing is put
  abbrev pub MaySave : Bool → Result (Unit {0}) Stop → FarmSeen D → FarmSeen D → List (ℕ × Entry)
      → Result (Unit {0}) Stop → Type 0
  MaySave true (Ok done) farm farm' log end = Saves farm farm' log end
  MaySave false (Ok done) farm farm' log end = (farm' ≡ farm) × (end ≡ Ok tt)
  MaySave resume (Err why) farm farm' log end = (farm' ≡ farm) × (end ≡ Err why)
