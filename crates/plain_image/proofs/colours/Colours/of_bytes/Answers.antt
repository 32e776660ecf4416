use Rattle.std.proofs.Common.{length, ap, ◌∙◌}
use Rattle.plain_image.proofs.Bytes.{thirds}
use Rattle.plain_image.proofs.colours.Colours.of_bytes.Goals as goal

pub invariant_of-result : goal.invariant_of-result
invariant_of-result c = (thirds c.args.count c.in_ok-bytes.bytes.items (ap length c.in_ok-bytes.ensures.items ∙ c.requires.len)).0

pub returns-clause-len : goal.returns-clause-len
returns-clause-len c = (thirds c.args.count c.in_ok-bytes.bytes.items (ap length c.in_ok-bytes.ensures.items ∙ c.requires.len)).1
