-- The law is proved with the definitions.
use Rattle.farm_history.proofs.Resumed.{resumed}
use Rattle.farm_laws.proofs.law_resumed.Goals as goal

pub returns : goal.returns
returns c = resumed
