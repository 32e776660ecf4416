-- The law is proved with the headline.
use Rattle.farm_laws.proofs.Promised.{promise}
use Rattle.farm_laws.proofs.law_promise.Goals as goal

pub returns : goal.returns
returns c = promise
