use Rattle.worked_client.proofs.law_client.Goals as goal
use Rattle.worked_client.proofs.Client.{clients}

-- src/lib.rt:14:1
pub returns : goal.returns
returns g c = clients g.D.TileStore.state
