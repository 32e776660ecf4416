-- What is left of a store over which a farm was started and ran.
use Rattle.std.specs.Prelude.{◌≡◌, List, is_some}
use Rattle.farm_base.specs.Outside.{Outside}
use Rattle.tile_store.specs.Stores.{StoreTold}
use Rattle.farm_history.specs.Entries.{Entry}
use Rattle.farm_plan.specs.Plans.{FarmPlan}
use Rattle.farm_refinement.specs.Seen.{FarmSeen}
use Rattle.farm_refinement.specs.Stands.{StandsFor}
use Rattle.farm_core.specs.Answers.{at_saved}

-- A farm of the plan was started over one store and left another, and it ran so: `ran` says it of
-- the histories that it stands for at its end. It is told what the store holds where the store
-- tells that.
pub record Leaves {D : Type 0} (state : D → Outside StoreTold) (plan : FarmPlan) (store store' : D)
    (ran : (List Entry → Type 0) → Type 0) : Type 0 where
  pub farm : FarmSeen D
  pub plan_is : farm.plan ≡ plan
  pub first_is : farm.first ≡ store
  pub store_is : farm.store ≡ store'
  -- the place of a saved farm holds what it held
  pub beside : at_saved (state store') ≡ at_saved (state store)
  pub runs : ran (λ h. StandsFor state (is_some (state store).told) farm h)
