-- The law is proved with the definitions.
use Rattle.farm_history.proofs.Apart.{apart}
use Rattle.farm_laws.proofs.law_apart.Goals as goal

pub returns : goal.returns
returns c = apart
