use Rattle.farm_base.proofs.NumberTexts.{read_as_number}
use Rattle.farm_base.proofs.laws.law_numbers.Goals as goal

pub returns : goal.returns
returns c = read_as_number
