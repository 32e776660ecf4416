-- What holds of saved texts.
use Rattle.std.specs.Prelude.{◌≡◌, ◌^◌, ◌<◌, Bool, List, length, All, Ok}
use Rattle.farm_history.specs.declared.keys.Kept.{Kept}
use Rattle.farm_history.specs.declared.saved.Past.{Past}
use Rattle.farm_history.specs.Entries.{Entry}
use Rattle.farm_history.specs.Rules.{Legal}
use Rattle.farm_history.specs.Replays.{Saving, past_number, IsSaved, IsResumed, replay}
use Rattle.farm_plan.specs.Plans.{FarmPlan, IsPlan}
use Rattle.farm_plan.specs.Drawings.{plan_of}
use Rattle.farm_saved.specs.Savings.{IsSaving}
use Rattle.farm_saved.specs.Writing.{saved_bytes}
use Rattle.farm_saved.specs.Reading.{saved_in}

-- the numbers of updates and maps fit 32 bits
abbrev pub PastFits : Past → Type 0
PastFits past = past_number past < 2 ^ 32

abbrev pub MapFits : Kept → Type 0
MapFits k = k.key.map < 2 ^ 32

-- numbers that the fields hold
pub record HasNumbers (s : Saving) : Type 0 where
  pub updates_fit : All PastFits s.updates
  pub maps_fit : All MapFits s.clean
  pub few_updates : length s.updates < 2 ^ 64
  pub few_clean : length s.clean < 2 ^ 64

-- What is saved, if it is sound, is what its text says.
abbrev pub ReadsBack : Type 0
ReadsBack = (s : Saving) → IsSaving s → HasNumbers s → saved_in (saved_bytes s) ≡ Ok s

-- In every valid plan, the replay of what is saved after a legal history resumes it.
abbrev pub Resumes : Type 0
Resumes =
    (plan : FarmPlan) (store_tells : Bool) (h : List Entry) (s : Saving)
    → IsPlan plan → Legal (plan_of plan) store_tells h → IsSaved (plan_of plan) h s
    → IsResumed (plan_of plan) h (replay (plan_of plan) s)
