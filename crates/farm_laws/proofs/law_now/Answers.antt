-- The law is proved with the drawing of a plan.
use Rattle.farm_laws.proofs.Newest.{sent_now}
use Rattle.farm_laws.proofs.law_now.Goals as goal

pub returns : goal.returns
returns c = sent_now
