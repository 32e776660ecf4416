use Rattle.filter_texts.proofs.Again.{known_by_text}
use Rattle.filter_texts.proofs.laws.law_known_by_text.Goals as goal

pub returns : goal.returns
returns c = known_by_text
