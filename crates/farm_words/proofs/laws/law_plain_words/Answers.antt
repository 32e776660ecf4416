use Rattle.farm_words.proofs.PlainWords.{plain_values}
use Rattle.farm_words.proofs.laws.law_plain_words.Goals as goal

pub returns : goal.returns
returns c = plain_values
