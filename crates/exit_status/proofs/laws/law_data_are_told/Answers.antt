use Rattle.exit_status.proofs.Features.{data_are_told}
use Rattle.exit_status.proofs.laws.law_data_are_told.Goals as goal

pub returns : goal.returns
returns c = data_are_told
