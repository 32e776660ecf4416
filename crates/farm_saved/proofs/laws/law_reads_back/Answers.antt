use Rattle.farm_saved.proofs.Back.{reads_back}
use Rattle.farm_saved.proofs.laws.law_reads_back.Goals as goal

pub returns : goal.returns
returns c = reads_back
