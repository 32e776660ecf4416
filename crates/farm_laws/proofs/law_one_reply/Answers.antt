-- The law is proved with the definitions.
use Rattle.farm_history.proofs.OneReply.{one_reply}
use Rattle.farm_laws.proofs.law_one_reply.Goals as goal

pub returns : goal.returns
returns c = one_reply
