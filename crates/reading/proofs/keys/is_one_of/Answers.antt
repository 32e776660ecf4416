use Rattle.std.proofs.Common.{◌∙◌}
use Rattle.reading.proofs.Members.{one_seen}
use Rattle.reading.proofs.keys.is_one_of.Goals as goal

pub returns : goal.returns
returns c = c.is_any.ensures ∙ one_seen c.args.names.now c.args.name.now
