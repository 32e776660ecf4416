use Rattle.farm_shared.proofs.Steps.{lasting, room, step_any}
use Rattle.farm_shared.proofs.change_events.UpdateEvent.run.Goals as goal

pub update-requires : goal.update-requires
update-requires g c = room g.D.TileStore.state _ c.requires.2 c.requires.3.0 c.requires.3.2

pub returns : goal.returns
returns g c = (
  lasting g.D.TileStore.state _ _ c.update.ensures.kept,
  λ n seen log due. (step_any g.D.TileStore.state _ _ n _ log c.update.ensures.kept c.update.ensures.step tt due.0, tt),
)
