-- A put of a saved farm's text.
use Rattle.std.specs.Prelude.{◌≡◌, ℕ, List, Result, Ok, Err}
use Rattle.farm_base.specs.Outside.{Outside}
use Rattle.tile_store.specs.Stores.{StoreTold, StorePuts}
use Rattle.tile_store.specs.declared.stores.StoreFault.{StoreFault}
use Rattle.tile_store.specs.declared.stores.StoreFault.TheVariants as fault
use Rattle.exit_status.specs.declared.stops.Stop.{Stop}
use Rattle.exit_status.specs.declared.stops.Stop.TheVariants as stop
use Rattle.farm_history.specs.Entries.{Entry}
use Rattle.farm_refinement.specs.Seen.{FarmSeen}
use Rattle.farm_shared.specs.Shared.{IsAfter}
use Rattle.tile_paths.specs.Paths.{saved_path}

-- how a call goes on after a put into the store
abbrev pub end_of : Result (Unit {0}) StoreFault → Result (Unit {0}) Stop
end_of (Ok done) = Ok tt
end_of (Err fault.Failed) = Err stop.StoreFailed
end_of (Err fault.NoMemory) = Err stop.NoMemory

-- the text was put: but for its store the farm is as it was, with the same history, and stands for
-- what it stood for
pub record PutsText {D : Type 0} (state : D → Outside StoreTold)
    (old new : FarmSeen D × List (ℕ × Entry)) (text : List ℕ)
    (end : Result (Unit {0}) Stop) : Type 0 where
  pub answer : Result (Unit {0}) StoreFault
  pub puts : StorePuts (state old.0.store) (state new.0.store) saved_path text answer
  pub same : new ≡ (record old.0 { store = new.0.store }, old.1)
  pub after : (log : List (ℕ × Entry)) → IsAfter state old.0 log → IsAfter state new.0 log
  pub end_is : end ≡ end_of answer
