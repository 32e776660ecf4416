use Rattle.farm_words.proofs.PlainWords.{plain_values}
use Rattle.farm_words.proofs.reading.read_words.Goals as goal

pub returns-clause-plain : goal.returns-clause-plain
returns-clause-plain c plain = c.read_values.ensures.given _ (plain_values _ plain)
