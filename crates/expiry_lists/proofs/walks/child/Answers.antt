use Rattle.expiry_lists.proofs.Quarters.{child_node}
use Rattle.expiry_lists.proofs.walks.child.Goals as goal

pub returns-clause-node : goal.returns-clause-node
returns-clause-node c = child_node c.args.key c.args.j c.requires.node c.requires.quarter c.requires.above
