-- How a script ends, and what it leaves.
use Rattle.std.specs.Prelude.{◌≡◌, ℕ, ◌⊎◌, ◌||◌, Bool, List, ◌∷◌, take, slice_get, Some, Ok, Err}
use Rattle.farm_base.specs.Outside.{Outside, Puts}
use Rattle.farm_base.specs.declared.sinks.SinkFault.TheVariants.{Failed}
use Rattle.farm_history.specs.Entries.{Entry}
use Rattle.farm_plan.specs.Plans.{FarmPlan}
use Rattle.script_lines.specs.declared.script.ScriptLine.{ScriptLine}
use Rattle.script_text.specs.declared.ends.ScriptEnd.{ScriptEnd}
use Rattle.script_text.specs.declared.ends.ScriptEnd.TheVariants as end
use Rattle.script_text.specs.ScriptTexts.{IsEntryOf, has_failed, ScriptText}

-- all lines were run, and their whole text was put; whether a call of the store failed is told
pub record RunsAll (plan : FarmPlan) (lines : List ScriptLine) (before : List Entry)
    (stands : List Entry → Type 0) (out out' : Outside (List ℕ)) (failed : Bool) : Type 0 where
  pub after : List Entry
  pub stood_for : stands after
  pub noted : has_failed after ≡ (failed || has_failed before)
  pub text : List ℕ
  pub says : ScriptText plan lines before after text
  pub put : Puts out out' text (Ok tt)

-- the first so many lines were run, and a front of their text was put: a put failed
pub record RunsCut (plan : FarmPlan) (lines : List ScriptLine) (before : List Entry)
    (stands : List Entry → Type 0) (out out' : Outside (List ℕ)) : Type 0 where
  pub count : ℕ
  pub after : List Entry
  pub stood_for : stands after
  pub text : List ℕ
  pub says : ScriptText plan (take count lines) before after text
  pub put : Puts out out' text (Err Failed)

-- a line found no memory: before its event, or behind it
abbrev pub BrokeOff : FarmPlan → ScriptLine → List Entry → List Entry → Type 0
BrokeOff plan l before after =
    (after ≡ before) ⊎ ((e : Entry) × IsEntryOf plan l e × (after ≡ e ∷ before))

-- the first so many lines were run, and their text was put; the next one found no memory
pub record RunsShort (plan : FarmPlan) (lines : List ScriptLine) (before : List Entry)
    (stands : List Entry → Type 0) (out out' : Outside (List ℕ)) : Type 0 where
  pub count : ℕ
  pub next : ScriptLine
  pub is_next : slice_get lines count ≡ Some next
  pub middle : List Entry
  pub after : List Entry
  pub stood_for : stands after
  pub text : List ℕ
  pub says : ScriptText plan (take count lines) before middle text
  pub broke_off : BrokeOff plan next middle after
  pub put : Puts out out' text (Ok tt)

-- a script of these lines on a farm that stood for a history; whether a call of the store failed is
-- told where all lines were run
abbrev pub Runs : FarmPlan → List ScriptLine → List Entry → (List Entry → Type 0) → Outside (List ℕ)
    → Outside (List ℕ) → Bool → ScriptEnd → Type 0
Runs plan lines before stands out out' failed end.Done =
    RunsAll plan lines before stands out out' failed
Runs plan lines before stands out out' failed end.SinkFailed =
    RunsCut plan lines before stands out out'
Runs plan lines before stands out out' failed end.NoMemory =
    RunsShort plan lines before stands out out'
