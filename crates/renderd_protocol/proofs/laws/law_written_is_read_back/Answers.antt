use Rattle.renderd_protocol.proofs.Written.{reads_back}
use Rattle.renderd_protocol.proofs.laws.law_written_is_read_back.Goals as goal

pub returns : goal.returns
returns c = reads_back
