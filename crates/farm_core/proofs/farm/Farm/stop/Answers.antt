use Rattle.std.proofs.Common.{true, ap, ◌∙◌}
use Rattle.farm_refinement.specs.Seen.{FarmSeen}
use Rattle.farm_core.proofs.Told.{stop_told}
use Rattle.farm_core.proofs.farm.Farm.stop.Goals as goal

pub returns-clause-step : goal.returns-clause-step
returns-clause-step g c = λ told h s.
    stop_told g.D.TileStore.state told _ _ h
    (c.note_stop.ensures ∙ ap {A = FarmSeen g.row.D.Denot} (λ f. record f { counts = record f.counts { stopped = true } }) c.count_turn.ensures.turned) s
