-- A shared farm begins after nothing.
use Rattle.std.proofs.Common.{◌^◌, ◌<◌, Bool, [], length, Option, Some, None, refl}
use Rattle.farm_base.specs.Outside.{Outside}
use Rattle.tile_store.specs.Stores.{StoreTold}
use Rattle.farm_history.specs.Past.{flights}
use Rattle.farm_history.specs.Laws.{ask_numbered}
use Rattle.farm_history.specs.Replays.{Saving}
use Rattle.farm_history.proofs.Unflown.{replay_unflown, replay_asks}
use Rattle.farm_plan.specs.Plans.{FarmPlan}
use Rattle.farm_plan.specs.Drawings.{plan_of}
use Rattle.farm_refinement.specs.Seen.{FarmSeen}
use Rattle.farm_refinement.specs.Stands.{StandsFor}
use Rattle.farm_core.specs.Begins.{origin, BeginsWell}
use Rattle.farm_shared.specs.Afters.{lasting_of, MayTell, IsAfter}

begins_well : (plan : FarmPlan) (saved : Option Saving) → length (origin plan saved) < 2 ^ 62 → BeginsWell (origin plan saved)
unfolding flights ask_numbered
begins_well plan None short = record { short = short; unflown = refl; asks = λ m a is. cc }
begins_well plan (Some s) short = record { short = short; unflown = replay_unflown (plan_of plan) s; asks = replay_asks (plan_of plan) s }

pub after_nothing : {D : Type 0} (state : D → Outside StoreTold) (farm : FarmSeen D) → ((told : Bool) → MayTell state (lasting_of state farm) told → StandsFor state told farm (origin farm.plan farm.saved)) →
    length (origin farm.plan farm.saved) < 2 ^ 62 → IsAfter state farm []
after_nothing state farm stands short = record { each = stands; seated = tt; begun = begins_well farm.plan farm.saved short }
