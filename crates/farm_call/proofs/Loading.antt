-- How generated work ends, as a call asks it of work.
use Rattle.std.proofs.Common.{◌≡◌, ◌≢◌, ℕ, inl, inr, true, List, refl, ap}
use Rattle.std.specs.Prelude.{Result, Ok, Err, is_some}
use Rattle.farm_base.specs.Outside.{Outside, Rose}
use Rattle.tile_store.specs.Stores.{StoreTold}
use Rattle.farm_history.specs.Entries.{Entry}
use Rattle.farm_refinement.specs.Stands.{StandsFor}
use Rattle.exit_status.specs.Ends.{SinkAt}
use Rattle.exit_status.specs.declared.stops.Stop.{Stop}
use Rattle.exit_status.specs.declared.stops.Stop.TheVariants as stop
use Rattle.script_text.specs.ScriptTexts.{has_failed}
use Rattle.load_command.specs.Runs.{LoadsOn, Loads}
use Rattle.farm_call.proofs.Whys.{StoreWhys, by_end, store_rose}

module _ (seed n : ℕ) (stands : List Entry → Type 0) (out out' : SinkAt) where
  -- why it ended so; `lose` says what a history means in which a call of the store failed
  why_on : {Q : Type 0} → ((h : List Entry) → stands h → has_failed h ≡ true → Q) → (q : Stop) → LoadsOn seed n stands out out' (Err q) → StoreWhys (Rose out.faults out'.faults) Q q
  why_on lose (stop.Refused line) did = absurd did.loaded
  why_on lose stop.Words did = absurd did.loaded
  why_on lose (stop.Unreadable line) did = absurd did.loaded
  why_on lose stop.SinkFailed did = did.loaded.2.3.1
  why_on lose stop.NoMemory did = tt
  why_on lose stop.StoreFailed did = lose did.after did.stood_for did.loaded.2
  why_on lose stop.PortsFailed did = absurd did.loaded
  why_on lose stop.TurnsUsedUp did = absurd did.loaded

  noticed_on : (end : Result (Unit {0}) Stop) → LoadsOn seed n stands out out' end → out'.faults ≢ out.faults → end ≡ Err stop.SinkFailed
  noticed_on (Ok u) did other = absurd (other did.loaded.3.1)
  noticed_on (Err (stop.Refused line)) did other = absurd did.loaded
  noticed_on (Err stop.Words) did other = absurd did.loaded
  noticed_on (Err (stop.Unreadable line)) did other = absurd did.loaded
  noticed_on (Err stop.SinkFailed) did other = refl
  noticed_on (Err stop.NoMemory) did other = absurd (other (ap (λ (at : SinkAt). at.faults) did.loaded.0))
  noticed_on (Err stop.StoreFailed) did other = absurd (other did.loaded.3.1)
  noticed_on (Err stop.PortsFailed) did other = absurd did.loaded
  noticed_on (Err stop.TurnsUsedUp) did other = absurd did.loaded

module _ {D : Type 0} (state : D → Outside StoreTold) (seed n : ℕ) (store store' : D) (out out' : SinkAt) where
  pub loads_stops : (q : Stop) → Loads state seed n store store' out out' (Err q) → StoreWhys (Rose out.faults out'.faults) (Rose (state store).faults (state store').faults) q
  loads_stops q (inl leaves) =
      why_on seed n (λ h. StandsFor state (is_some (state store).told) leaves.farm h) out out' (store_rose state store store' leaves.farm leaves.first_is leaves.store_is) q leaves.runs
  loads_stops q (inr h) = by_end (Rose out.faults out'.faults) (Rose (state store).faults (state store').faults) stop.NoMemory q h.0 tt

  pub loads_noticed : (end : Result (Unit {0}) Stop) → Loads state seed n store store' out out' end → out'.faults ≢ out.faults → end ≡ Err stop.SinkFailed
  loads_noticed end (inl leaves) other = noticed_on seed n _ out out' end leaves.runs other
  loads_noticed end (inr h) other = absurd (other (ap (λ (at : SinkAt). at.faults) h.2))
