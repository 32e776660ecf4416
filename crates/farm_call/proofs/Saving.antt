-- What was saved, by what was put.
use Rattle.std.proofs.Common.{◌≡◌, ℕ, Bool, false, List, sym, ap, subst}
use Rattle.std.specs.Prelude.{Result, Ok, Err}
use Rattle.farm_base.specs.Outside.{Outside}
use Rattle.tile_store.specs.Stores.{StoreTold, StorePuts}
use Rattle.tile_store.specs.declared.stores.StoreFault.{StoreFault}
use Rattle.tile_store.specs.declared.stores.StoreFault.TheVariants as fault
use Rattle.exit_status.specs.declared.stops.Stop.{Stop}
use Rattle.farm_history.specs.Entries.{Entry}
use Rattle.farm_history.specs.Replays.{Saving, IsSaved}
use Rattle.farm_plan.specs.Drawings.{plan_of}
use Rattle.farm_saved.specs.Writing.{saved_bytes}
use Rattle.farm_saved.specs.Reading.{saved_in}
use Rattle.farm_refinement.specs.Seen.{FarmSeen}
use Rattle.farm_refinement.specs.Stands.{StandsFor}
use Rattle.farm_shared.specs.Shared.{IsAfter, lasting_of, past}
use Rattle.tile_paths.specs.Paths.{saved_path}
use Rattle.farm_call.specs.Savings.{PutsSaved, Saves, SavesTo}
use Rattle.farm_call.specs.inner.Puts.{PutsText, end_of}

module _ {D : Type 0} (state : D → Outside StoreTold) (closed : FarmSeen D × List (ℕ × Entry)) (after : IsAfter state closed.0 closed.1) where
  -- a farm that was closed stands for its history, whatever its store tells
  pub stands : StandsFor state false closed.0 (past (lasting_of state closed.0) closed.1)
  stands = after.each false (λ e. absurd (cc))

  module _ (saving : Saving) (sound : (told : Bool) (h : List Entry) → StandsFor state told closed.0 h → IsSaved (plan_of closed.0.plan) h saving) (reads : saved_in (saved_bytes saving) ≡ Ok saving) (text : List ℕ) (is : text ≡ saved_bytes saving) where
    -- the text of what is kept was put, with this answer
    puts_saved : (new : FarmSeen D) (answer : Result (Unit {0}) StoreFault) → StorePuts (state closed.0.store) (state new.store) saved_path text answer → PutsSaved state closed.0 new closed.1 answer
    puts_saved new answer puts = record {
      saving = saving;
      saved = sound false (past (lasting_of state closed.0) closed.1) stands;
      reads = reads;
      puts = subst (λ (t : List ℕ). StorePuts (state closed.0.store) (state new.store) saved_path t answer) is puts;
    }

    went : (new : FarmSeen D) (answer : Result (Unit {0}) StoreFault) → StorePuts (state closed.0.store) (state new.store) saved_path text answer → SavesTo state closed.0 new closed.1 (end_of answer)
    went new (Ok done) puts = puts_saved new (Ok tt) puts
    went new (Err fault.Failed) puts = puts_saved new (Err fault.Failed) puts
    went new (Err fault.NoMemory) puts = puts

    pub saves : (new : FarmSeen D × List (ℕ × Entry)) (end : Result (Unit {0}) Stop) → PutsText state closed new text end → Saves state closed.0 new.0 closed.1 end
    saves new end put = record {
      same = ap (λ (c : FarmSeen D × List (ℕ × Entry)). c.0) put.same;
      after = put.after closed.1 after;
      went = subst (SavesTo state closed.0 new.0 closed.1) (sym put.end_is) (went new.0 put.answer put.puts);
    }
