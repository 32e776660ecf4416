-- What a saving leaves as it was.
use Rattle.std.proofs.Common.{◌≡◌, ℕ, Bool, true, false, List, refl, sym, subst}
use Rattle.std.specs.Prelude.{Result, Ok, Err}
use Rattle.farm_base.specs.Outside.{Outside}
use Rattle.tile_store.specs.Stores.{StoreTold}
use Rattle.exit_status.specs.declared.stops.Stop.{Stop}
use Rattle.farm_history.specs.Entries.{Entry}
use Rattle.farm_refinement.specs.Seen.{FarmSeen}
use Rattle.farm_shared.specs.Shared.{IsAfter}
use Rattle.farm_call.specs.Savings.{MaySave}

module _ {D : Type 0} (state : D → Outside StoreTold) (farm farm' : FarmSeen D) (log : List (ℕ × Entry)) where
  -- the farm is as it was but for its store, and stands for what it stood for
  pub record Keeps : Type 0 where
    pub same : farm' ≡ record farm { store = farm'.store }
    pub after : IsAfter state farm' log

  untouched : farm' ≡ farm → IsAfter state farm log → Keeps
  untouched is after = record { same = subst (λ (f : FarmSeen D). f ≡ record farm { store = f.store }) (sym is) refl; after = subst (λ (f : FarmSeen D). IsAfter state f log) (sym is) after }

  pub keeps : (resume : Bool) (why saved : Result (Unit {0}) Stop) → MaySave state resume why farm farm' log saved → IsAfter state farm log → Keeps
  keeps true (Ok done) saved may after = record { same = may.same; after = may.after }
  keeps false (Ok done) saved may after = untouched may.0 after
  keeps true (Err why) saved may after = untouched may.0 after
  keeps false (Err why) saved may after = untouched may.0 after
