-- What no event changes, over events one after another.
use Rattle.std.proofs.Common.{refl, ◌∙◌}
use Rattle.farm_base.specs.Outside.{Outside}
use Rattle.tile_store.specs.Stores.{StoreTold}
use Rattle.farm_refinement.specs.Seen.{FarmSeen}
use Rattle.farm_core.specs.Answers.{Lasts}

pub lasts_same : {D : Type 0} (state : D → Outside StoreTold) (farm : FarmSeen D) → Lasts state farm farm
lasts_same state farm = record { plan = refl; saved = refl; first = refl; beside = refl }

pub lasts_then : {D : Type 0} (state : D → Outside StoreTold) (old middle new : FarmSeen D) → Lasts state old middle → Lasts state middle new → Lasts state old new
lasts_then state old middle new a b = record { plan = b.plan ∙ a.plan; saved = b.saved ∙ a.saved; first = b.first ∙ a.first; beside = b.beside ∙ a.beside }
