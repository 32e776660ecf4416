-- What an event needs of the seat that it is taken on.
use Rattle.std.specs.Prelude.{ℕ, List, Option}
use Rattle.farm_history.specs.Entries.{Entry}
use Rattle.farm_history.specs.Replays.{Saving}
use Rattle.farm_plan.specs.Plans.{FarmPlan}
use Rattle.farm_shared.specs.declared.lasting.LastingPart.{LastingPart}

-- the need at a seat of that number which has seen those turns, by a farm's plan and what it was resumed
-- from
abbrev pub Need : Type 1
Need = ℕ → List (ℕ × Entry) → FarmPlan → Option Saving → Type 0

-- the need by a farm's lasting part
abbrev pub NeedOf : {D : Type 0} → Need → ℕ → List (ℕ × Entry) → LastingPart D → Type 0
NeedOf need n seen part = need n seen part.plan part.saved

-- the need at a seat of that number, whatever it has seen and whatever the farm began with
abbrev pub NeedAlone : Need → ℕ → Type 0
NeedAlone need n =
    (seen : List (ℕ × Entry)) (plan : FarmPlan) (saved : Option Saving) → need n seen plan saved
