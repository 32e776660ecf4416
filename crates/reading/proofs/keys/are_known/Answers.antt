use Rattle.std.proofs.Common.{◌∙◌, map}
use Rattle.reading.proofs.Members.{known_keys}
use Rattle.reading.proofs.keys.are_known.Goals as goal

pub returns : goal.returns
returns c = c.has_only.ensures ∙ known_keys (map (λ s. s.now) c.args.names.now) c.args.members.now.entries
