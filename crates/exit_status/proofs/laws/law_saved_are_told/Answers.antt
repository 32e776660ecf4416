use Rattle.exit_status.proofs.SavedTexts.{saved_are_told}
use Rattle.exit_status.proofs.laws.law_saved_are_told.Goals as goal

pub returns : goal.returns
returns c = saved_are_told
