-- How a script ends, as a call asks it of work.
use Rattle.std.proofs.Common.{◌≡◌, ◌≢◌, inl, inr, true, List, refl, ap}
use Rattle.std.specs.Prelude.{Result, Ok, Err, is_some}
use Rattle.farm_base.specs.Outside.{Outside, Rose}
use Rattle.tile_store.specs.Stores.{StoreTold}
use Rattle.farm_history.specs.Entries.{Entry}
use Rattle.farm_plan.specs.Plans.{FarmPlan}
use Rattle.farm_refinement.specs.Stands.{StandsFor}
use Rattle.script_lines.specs.declared.script.ScriptLine.{ScriptLine}
use Rattle.script_text.specs.ScriptTexts.{has_failed}
use Rattle.exit_status.specs.Ends.{SinkAt}
use Rattle.exit_status.specs.declared.stops.Stop.{Stop}
use Rattle.exit_status.specs.declared.stops.Stop.TheVariants as stop
use Rattle.farm_files.specs.Inputs.{ScriptInputs}
use Rattle.script_command.specs.Scripts.{ScriptsOn, Scripts}
use Rattle.farm_call.proofs.Whys.{StoreWhys, by_end, store_rose}

module _ (plan : FarmPlan) (lines : List ScriptLine) (stands : List Entry → Type 0) (out out' : SinkAt) where
  -- why it ended so; `lose` says what a history means in which a call of the store failed
  on_why : {Q : Type 0} → ((h : List Entry) → stands h → has_failed h ≡ true → Q) → (q : Stop) → ScriptsOn plan lines stands out out' (Err q) → StoreWhys (Rose out.faults out'.faults) Q q
  on_why lose (stop.Refused line) did = absurd did.ran
  on_why lose stop.Words did = absurd did.ran
  on_why lose (stop.Unreadable line) did = absurd did.ran
  on_why lose stop.SinkFailed did = did.put.3.1
  on_why lose stop.NoMemory did = tt
  on_why lose stop.StoreFailed did = lose did.after did.stood_for did.ran.2
  on_why lose stop.PortsFailed did = absurd did.ran
  on_why lose stop.TurnsUsedUp did = absurd did.ran

  on_noticed : (end : Result (Unit {0}) Stop) → ScriptsOn plan lines stands out out' end → out'.faults ≢ out.faults → end ≡ Err stop.SinkFailed
  on_noticed (Ok u) did other = absurd (other did.put.1)
  on_noticed (Err (stop.Refused line)) did other = absurd did.ran
  on_noticed (Err stop.Words) did other = absurd did.ran
  on_noticed (Err (stop.Unreadable line)) did other = absurd did.ran
  on_noticed (Err stop.SinkFailed) did other = refl
  on_noticed (Err stop.NoMemory) did other = absurd (other did.put.1)
  on_noticed (Err stop.StoreFailed) did other = absurd (other did.put.1)
  on_noticed (Err stop.PortsFailed) did other = absurd did.ran
  on_noticed (Err stop.TurnsUsedUp) did other = absurd did.ran

module _ {D : Type 0} (state : D → Outside StoreTold) (s : ScriptInputs) (store store' : D) (out out' : SinkAt) where
  -- why it ended early
  pub scripts_stops : (q : Stop) → Scripts state s store store' out out' (Err q) → StoreWhys (Rose out.faults out'.faults) (Rose (state store).faults (state store').faults) q
  scripts_stops q (inl leaves) =
      on_why s.inputs.plan s.script (λ h. StandsFor state (is_some (state store).told) leaves.farm h) out out' (store_rose state store store' leaves.farm leaves.first_is leaves.store_is)
      q leaves.runs
  scripts_stops q (inr h) = by_end (Rose out.faults out'.faults) (Rose (state store).faults (state store').faults) stop.NoMemory q h.0 tt

  pub scripts_noticed : (end : Result (Unit {0}) Stop) → Scripts state s store store' out out' end → out'.faults ≢ out.faults → end ≡ Err stop.SinkFailed
  scripts_noticed end (inl leaves) other =
      on_noticed s.inputs.plan s.script (λ h. StandsFor state (is_some (state store).told) leaves.farm h) out out' end leaves.runs other
  scripts_noticed end (inr h) other = absurd (other (ap (λ (at : SinkAt). at.faults) h.2))
