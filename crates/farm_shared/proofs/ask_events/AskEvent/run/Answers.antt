use Rattle.farm_shared.proofs.Steps.{lasting, room, step_any}
use Rattle.farm_shared.proofs.ask_events.AskEvent.run.Goals as goal

pub ask-requires : goal.ask-requires
ask-requires g c = room g.D.TileStore.state _ c.requires.2 c.requires.3.0 c.requires.3.2

pub returns : goal.returns
returns g c = (
  lasting g.D.TileStore.state _ _ c.ask.ensures.kept,
  λ n seen log due. (step_any g.D.TileStore.state _ _ n _ log c.ask.ensures.kept c.ask.ensures.step due.3 due.0, tt),
)
