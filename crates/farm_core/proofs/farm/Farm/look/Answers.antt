use Rattle.std.proofs.Common.{ap, ◌∙◌, refl}
use Rattle.farm_history.specs.Entries.{Look}
use Rattle.farm_history.specs.Rules.{Fits}
use Rattle.farm_refinement.specs.Seen.{FarmSeen}
use Rattle.farm_refinement.specs.inner.Events.{look_at}
use Rattle.farm_refinement.proofs.Reading.{look_is}
use Rattle.farm_core.proofs.Told.{idle_told}
use Rattle.farm_core.proofs.farm.Farm.look.Goals as goal

pub returns-clause-step : goal.returns-clause-step
unfolding Fits
returns-clause-step g c = λ told h s.
    let is = c.standing.ensures ∙ ap {A = FarmSeen g.row.D.Denot} (λ f. look_at f c.args.spot) c.count_turn.ensures.turned in
    idle_told g.D.TileStore.state told _ _ h (Look c.args.spot _) c.count_turn.ensures.turned refl (is ∙ look_is g.D.TileStore.state told _ h c.args.spot s) s
