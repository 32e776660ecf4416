-- How a farm begins: what it keeps for good, and the history that it stands for.
use Rattle.std.specs.Prelude.{ℕ, ◌<◌, ◌≡◌, Bool, true, List, [], length, Option, Some, None, is_some, IfSome}
use Rattle.farm_base.specs.Limits.{most_turns}
use Rattle.farm_base.specs.Outside.{Outside}
use Rattle.tile_store.specs.Stores.{StoreTold}
use Rattle.farm_history.specs.Entries.{Entry}
use Rattle.farm_history.specs.Past.{Numbered, flights}
use Rattle.farm_history.specs.Laws.{ask_numbered}
use Rattle.farm_history.specs.Replays.{Saving, replay_front, replay}
use Rattle.farm_plan.specs.Plans.{FarmPlan}
use Rattle.farm_plan.specs.Drawings.{plan_of}
use Rattle.farm_refinement.specs.Seen.{FarmSeen}
use Rattle.farm_refinement.specs.Stands.{HoldsShown, StandsFor}

-- the history with which a farm begins: nothing where it was started, and the replay of what it was resumed from
abbrev pub origin : FarmPlan → Option Saving → List Entry
origin plan None = []
origin plan (Some s) = replay (plan_of plan) s

-- the store tells; and where the farm was resumed it holds what the replay says is shown
abbrev pub Tells : Outside StoreTold → FarmPlan → Option Saving → Type 0
Tells store plan None = is_some store.told ≡ true
Tells store plan (Some s) =
    (is_some store.told ≡ true)
    × IfSome store.told (λ t. HoldsShown plan (replay (plan_of plan) s) t.content)

-- A farm as it begins: it has the plan, what it was resumed from, if it was, and the store, now and as it was at the start; and it stands for its origin, where that it is told what the store holds may be said where the store tells
pub record Begins {D : Type 0} (state : D → Outside StoreTold) (plan : FarmPlan)
    (saved : Option Saving) (store : D) (farm : FarmSeen D) : Type 0 where
  pub plan_is : farm.plan ≡ plan
  pub saved_is : farm.saved ≡ saved
  pub first_is : farm.first ≡ store
  pub store_is : farm.store ≡ store
  pub stands : (store_tells : Bool) → (store_tells ≡ true → Tells (state store) plan saved)
      → StandsFor state store_tells farm (origin plan saved)

-- a history with which a farm may begin: it leaves room for all turns, no drawing is under way, and no ask in it is of a running farm's front
pub record BeginsWell (h : List Entry) : Type 0 where
  pub short : length h < most_turns
  pub unflown : flights h ≡ []
  pub asks : (m : ℕ) (a : Numbered) → ask_numbered h m ≡ Some a → a.conn.front ≡ replay_front
