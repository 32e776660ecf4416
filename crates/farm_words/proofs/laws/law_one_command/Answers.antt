use Rattle.farm_words.proofs.OneCommand.{spell_one}
use Rattle.farm_words.proofs.laws.law_one_command.Goals as goal

pub returns : goal.returns
returns c = spell_one
