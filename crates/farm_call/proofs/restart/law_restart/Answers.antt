-- The law, of what a store shows.
use Rattle.farm_call.proofs.Restarting.{tells_on, promise_on}
use Rattle.farm_call.proofs.restart.law_restart.Goals as goal

pub returns-clause-tells : goal.returns-clause-tells
returns-clause-tells g c = tells_on g.D.TileStore.state

pub returns-clause-promise : goal.returns-clause-promise
returns-clause-promise g c = promise_on g.D.TileStore.state
