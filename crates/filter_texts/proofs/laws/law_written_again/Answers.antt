use Rattle.filter_texts.proofs.Again.{written_again}
use Rattle.filter_texts.proofs.laws.law_written_again.Goals as goal

pub returns : goal.returns
returns c = written_again
