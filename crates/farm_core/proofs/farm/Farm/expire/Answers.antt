use Rattle.std.proofs.Common.{subst}
use Rattle.farm_history.specs.Plans.{overlaps}
use Rattle.farm_refinement.specs.Seen.{FarmSeen}
use Rattle.farm_core.specs.inner.Effects.{Dirties}
use Rattle.farm_core.proofs.Told.{expire_told}
use Rattle.farm_core.proofs.farm.Farm.expire.Goals as goal

pub returns-clause-step : goal.returns-clause-step
returns-clause-step g c = λ told h s.
    expire_told g.D.TileStore.state told _ _ h _ _ (subst (λ (f : FarmSeen g.row.D.Denot). Dirties (overlaps c.args.t) f c.mark_tile_dirty.new.self c.mark_tile_dirty.result) c.count_turn.ensures.turned c.mark_tile_dirty.ensures) s
