use Rattle.std.proofs.Common.{sym}
use Rattle.farm_shared.proofs.Steps.{lasting, replied, room, step_any}
use Rattle.farm_shared.proofs.ask_events.CollectEvent.run.Goals as goal

pub collect-requires : goal.collect-requires
collect-requires g c = room g.D.TileStore.state _ c.requires.2 c.requires.3.0 c.requires.3.2

pub returns : goal.returns
returns g c = (
  lasting g.D.TileStore.state _ _ c.collect.ensures.kept,
  λ n seen log due. (
    step_any g.D.TileStore.state _ _ n _ log c.collect.ensures.kept c.collect.ensures.step due.3 due.0,
    replied g.D.TileStore.state _ _ _ _ log due.0 (sym c.collect.ensures.kept.plan) c.collect.ensures.step,
  ),
)
