use Rattle.std.proofs.Common.{ap, ◌∙◌, refl}
use Rattle.farm_history.specs.Entries.{Tally}
use Rattle.farm_history.specs.Rules.{Fits}
use Rattle.farm_refinement.specs.Seen.{FarmSeen}
use Rattle.farm_refinement.specs.inner.Events.{tally_of}
use Rattle.farm_refinement.proofs.Replying.{tally_is}
use Rattle.farm_core.proofs.Told.{idle_told}
use Rattle.farm_core.proofs.farm.Farm.tally.Goals as goal

pub returns-clause-step : goal.returns-clause-step
unfolding Fits
returns-clause-step g c = λ told h s.
    let is = c.totals.ensures ∙ ap {A = FarmSeen g.row.D.Denot} (λ f. tally_of f.counts) c.count_turn.ensures.turned in
    idle_told g.D.TileStore.state told _ _ h (Tally _) c.count_turn.ensures.turned refl (is ∙ tally_is g.D.TileStore.state told _ h s) s
