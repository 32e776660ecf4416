-- How the command ends that runs a script, and what it leaves.
use Rattle.std.specs.Prelude.{◌≡◌, ◌⊎◌, ℕ, true, false, List, [], length, take, slice_get, Some, Result, Ok, Err}
use Rattle.farm_base.specs.Outside.{Outside, Puts}
use Rattle.farm_base.specs.declared.sinks.SinkFault.{SinkFault}
use Rattle.farm_base.specs.declared.sinks.SinkFault.TheVariants.{Failed}
use Rattle.tile_store.specs.Stores.{StoreTold}
use Rattle.farm_history.specs.Entries.{Entry}
use Rattle.farm_plan.specs.Plans.{FarmPlan}
use Rattle.script_lines.specs.declared.script.ScriptLine.{ScriptLine}
use Rattle.script_text.specs.ScriptTexts.{has_failed, ScriptText}
use Rattle.script_text.specs.Runs.{BrokeOff}
use Rattle.script_text.specs.Left.{Leaves}
use Rattle.exit_status.specs.Ends.{SinkAt}
use Rattle.exit_status.specs.declared.stops.Stop.{Stop}
use Rattle.exit_status.specs.declared.stops.Stop.TheVariants as stop
use Rattle.farm_files.specs.Inputs.{ScriptInputs}

-- how a put on out was answered where the run ended so
abbrev pub put_of : Result (Unit {0}) Stop → Result (Unit {0}) SinkFault
put_of (Err stop.SinkFailed) = Err Failed
put_of end = Ok tt

-- Why so many lines were run and no more, after which there was one history and, at the end,
-- another: there are no more, and it is told whether a call of the store failed; or a put on out
-- failed; or the next line found no memory.
abbrev pub RanSo : FarmPlan → List ScriptLine → ℕ → List Entry → List Entry
    → Result (Unit {0}) Stop → Type 0
RanSo plan lines count middle after (Ok done) =
    (count ≡ length lines) × (after ≡ middle) × (has_failed after ≡ false)
RanSo plan lines count middle after (Err stop.StoreFailed) =
    (count ≡ length lines) × (after ≡ middle) × (has_failed after ≡ true)
RanSo plan lines count middle after (Err stop.SinkFailed) = after ≡ middle
RanSo plan lines count middle after (Err stop.NoMemory) =
    (next : ScriptLine) × (slice_get lines count ≡ Some next) × BrokeOff plan next middle after
RanSo plan lines count middle after (Err other) = ⊥

-- The first so many lines were run on a farm that stood for no events, until this end, and of their
-- text all was put, or a front where a put failed.
pub record ScriptsOn (plan : FarmPlan) (lines : List ScriptLine) (stands : List Entry → Type 0)
    (out out' : SinkAt) (end : Result (Unit {0}) Stop) : Type 0 where
  pub count : ℕ
  pub middle : List Entry
  pub text : List ℕ
  pub says : ScriptText plan (take count lines) [] middle text
  pub put : Puts out out' text (put_of end)
  pub after : List Entry
  pub stood_for : stands after
  pub ran : RanSo plan lines count middle after end

-- A script over a store, on a farm of its plan. In want of memory the farm may not be started; then
-- nothing is put, and the store is as it was.
abbrev pub Scripts : {D : Type 0} → (D → Outside StoreTold) → ScriptInputs → D → D → SinkAt → SinkAt
    → Result (Unit {0}) Stop → Type 0
Scripts state s store store' out out' end =
    Leaves state s.inputs.plan store store'
    (λ stands. ScriptsOn s.inputs.plan s.script stands out out' end)
    ⊎ ((end ≡ Err stop.NoMemory) × (store' ≡ store) × (out' ≡ out))
