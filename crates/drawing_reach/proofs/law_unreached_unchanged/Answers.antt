-- The law is proved with the pictures of what is missed.
use Rattle.drawing_reach.proofs.Unreached.{unreached}
use Rattle.drawing_reach.proofs.law_unreached_unchanged.Goals as goal

pub returns : goal.returns
returns c = unreached
