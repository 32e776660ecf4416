-- The law is proved with the boxes of symbolizers.
use Rattle.drawing_reach.proofs.Reaching.{covered_reached}
use Rattle.drawing_reach.proofs.law_covers_within_reach.Goals as goal

pub returns : goal.returns
returns c = covered_reached
