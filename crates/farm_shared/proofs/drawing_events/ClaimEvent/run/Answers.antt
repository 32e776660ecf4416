use Rattle.farm_shared.proofs.Steps.{claimed, lasting, room, step_any}
use Rattle.farm_shared.proofs.drawing_events.ClaimEvent.run.Goals as goal

pub claim-requires : goal.claim-requires
claim-requires g c = room g.D.TileStore.state _ c.requires.2 c.requires.3.0 c.requires.3.2

pub returns : goal.returns
returns g c = (
  lasting g.D.TileStore.state _ _ c.claim.ensures.kept,
  λ n seen log due. (
    step_any g.D.TileStore.state _ _ n _ log c.claim.ensures.kept c.claim.ensures.step tt due.0,
    claimed g.D.TileStore.state _ _ _ _ log due.0 c.claim.ensures.kept c.claim.ensures.step c.claim.ensures.carries c.claim.ensures.job,
  ),
)
