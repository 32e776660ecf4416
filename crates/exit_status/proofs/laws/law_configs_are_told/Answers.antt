use Rattle.exit_status.proofs.Configs.{configs_are_told}
use Rattle.exit_status.proofs.laws.law_configs_are_told.Goals as goal

pub returns : goal.returns
returns c = configs_are_told
