use Rattle.reach_box.proofs.Dirtied.{bit_there, bit_gone}
use Rattle.reach_box.proofs.dirties.bit_if.Goals as goal

pub returns-then-there : goal.returns-then-there
returns-then-there c = λ m. rw c.if-there.true (bit_there c.args.place m c.requires)

pub returns-else-there : goal.returns-else-there
returns-else-there c = λ m. rw c.if-there.false (bit_gone c.args.place m)
