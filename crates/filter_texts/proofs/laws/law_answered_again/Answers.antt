use Rattle.filter_texts.proofs.Again.{answered_again}
use Rattle.filter_texts.proofs.laws.law_answered_again.Goals as goal

pub returns : goal.returns
returns c = answered_again
