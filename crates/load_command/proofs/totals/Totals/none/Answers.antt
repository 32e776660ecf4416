use Rattle.load_command.proofs.Summing.{tells_none}
use Rattle.load_command.proofs.totals.Totals.none.Goals as goal

pub returns : goal.returns
returns c = tells_none
