-- What a line does to a farm, for the code that runs it.
use Rattle.std.specs.Prelude.{◌≡◌, ℕ, ◌||◌, Bool, true, false, List, [], ◌∷◌, ◌++◌, codes, Option, Some, None, Result, Ok, Err, IfOk}
use Rattle.farm_base.specs.Outside.{Outside}
use Rattle.farm_base.specs.declared.memory.NoMemory.{NoMemory}
use Rattle.tile_store.specs.Stores.{StoreTold}
use Rattle.farm_history.specs.declared.answers.Fetched.{Fetched}
use Rattle.farm_history.specs.declared.answers.Fetched.TheVariants.{GetFailed}
use Rattle.farm_history.specs.declared.answers.Finished.{Finished}
use Rattle.farm_history.specs.declared.answers.Finished.TheVariants.{PutFailed}
use Rattle.farm_history.specs.Entries.{Entry}
use Rattle.farm_plan.specs.Plans.{FarmPlan}
use Rattle.farm_plan.specs.Jobs.{JobSeen}
use Rattle.farm_refinement.specs.Seen.{FarmSeen}
use Rattle.farm_refinement.specs.Stands.{StandsFor}
use Rattle.script_lines.specs.declared.script.ScriptLine.{ScriptLine}
use Rattle.script_answers.specs.Answers.{entry_text}
use Rattle.script_text.specs.ScriptTexts.{names_of, IsEntryOf, is_failed, has_failed, LineText}
use Rattle.script_text.specs.Runs.{BrokeOff}
use Rattle.script_text.specs.inner.Hands.{tickets, HandStands}

-- what stands behind the first line of an answer: a tile's bytes and a newline, or nothing
abbrev pub behind : Option (List ℕ) → List ℕ
behind None = []
behind (Some bytes) = bytes ++ codes "\n"

-- whether a fetch says that a call of the store failed
abbrev pub is_failed_fetch : Fetched → Bool
is_failed_fetch GetFailed = true
is_failed_fetch answer = false

-- whether the end of a drawing says so
abbrev pub is_failed_finish : Finished → Bool
is_failed_finish PutFailed = true
is_failed_finish answer = false

-- the answer of a line: its text, and whether a call of the store failed
pub record SaidSeen : Type 0 where
  pub text : List ℕ
  pub failed : Bool

-- the answer of an entry
pub record SaysEntry (plan : FarmPlan) (e : Entry) (said : SaidSeen) : Type 0 where
  pub text_is : entry_text (names_of plan) e ≡ Some said.text
  pub failed_is : said.failed ≡ is_failed e

-- the line's event was entered, and this is its answer; want of memory may come in place of the
-- answer
pub record Enters {D : Type 0} (state : D → Outside StoreTold) (store_tells : Bool)
    (farm : FarmSeen D) (plan : FarmPlan) (l : ScriptLine) (before : List Entry)
    (result : Result SaidSeen NoMemory) : Type 0 where
  pub e : Entry
  pub is_entry : IsEntryOf plan l e
  pub stands : StandsFor state store_tells farm (e ∷ before)
  pub said : IfOk result (SaysEntry plan e)

-- the line was entered, whatever history the farm stood for before it
abbrev pub EntersFrom : {D : Type 0} → (D → Outside StoreTold) → FarmSeen D → FarmSeen D
    → ScriptLine → Result SaidSeen NoMemory → Type 0
EntersFrom state old new l result = (store_tells : Bool) (g : List Entry)
    → StandsFor state store_tells old g → Enters state store_tells new old.plan l g result

-- the line was answered, with the jobs in hand before it and behind it; or it broke off
abbrev pub Answers : {D : Type 0} → (D → Outside StoreTold) → Bool → FarmSeen D → FarmPlan
    → ScriptLine → List Entry → List JobSeen → List JobSeen → Result SaidSeen NoMemory → Type 0
Answers state store_tells farm plan l before hand hand' (Ok said) =
    (after : List Entry) × StandsFor state store_tells farm after × LineText plan l (tickets hand)
    before (tickets hand') after said.text × HandStands plan after hand'
    × (has_failed after ≡ (said.failed || has_failed before))
Answers state store_tells farm plan l before hand hand' (Err wanting) =
    (after : List Entry) × StandsFor state store_tells farm after × BrokeOff plan l before after
