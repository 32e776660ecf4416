-- The law is proved with the definitions.
use Rattle.farm_history.proofs.Nows.{now}
use Rattle.farm_laws.proofs.law_now_where_local.Goals as goal

pub returns : goal.returns
returns c = now
