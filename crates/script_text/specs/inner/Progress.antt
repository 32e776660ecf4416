-- How far a script has come, for its loop.
use Rattle.std.specs.Prelude.{◌≡◌, ℕ, ◌||◌, Bool, List, [], take, Ok}
use Rattle.farm_base.specs.Outside.{Outside, Puts}
use Rattle.tile_store.specs.Stores.{StoreTold}
use Rattle.farm_history.specs.Entries.{Entry}
use Rattle.farm_plan.specs.Plans.{FarmPlan}
use Rattle.farm_plan.specs.Jobs.{JobSeen}
use Rattle.farm_refinement.specs.Seen.{FarmSeen}
use Rattle.farm_refinement.specs.Stands.{StandsFor}
use Rattle.script_lines.specs.declared.script.ScriptLine.{ScriptLine}
use Rattle.script_text.specs.ScriptTexts.{has_failed, LinesText}
use Rattle.script_text.specs.inner.Hands.{tickets, HandStands}

-- the first so many lines were run, and their text was put; whether a call of the store failed is
-- noted
pub record Goes {D : Type 0} (state : D → Outside StoreTold) (store_tells : Bool) (plan : FarmPlan)
    (lines : List ScriptLine) (count : ℕ) (before : List Entry) (farm : FarmSeen D)
    (hand : List JobSeen)
    (out out' : Outside (List ℕ)) (failed : Bool) : Type 0 where
  pub after : List Entry
  pub stands : StandsFor state store_tells farm after
  pub text : List ℕ
  pub says : LinesText plan (take count lines) [] before (tickets hand) after text
  pub held : HandStands plan after hand
  pub put : Puts out out' text (Ok tt)
  pub noted : has_failed after ≡ (failed || has_failed before)
