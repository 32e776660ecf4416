use Rattle.farm_shared.proofs.Steps.{lasting, room, step_any}
use Rattle.farm_shared.proofs.read_events.LookEvent.run.Goals as goal

pub look-requires : goal.look-requires
look-requires g c = room g.D.TileStore.state _ c.requires.2 c.requires.3.0 c.requires.3.2

pub returns : goal.returns
returns g c = (
  lasting g.D.TileStore.state _ _ c.look.ensures.kept,
  λ n seen log due. (step_any g.D.TileStore.state _ _ n _ log c.look.ensures.kept c.look.ensures.step tt due.0, tt),
)
