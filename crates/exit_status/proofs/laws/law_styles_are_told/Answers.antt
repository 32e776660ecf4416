use Rattle.exit_status.proofs.Styles.{styles_are_told}
use Rattle.exit_status.proofs.laws.law_styles_are_told.Goals as goal

pub returns : goal.returns
returns c = styles_are_told
