use Rattle.std.proofs.Common.{arith}
use Rattle.expiry_lists.proofs.Tiles.{deep_fits, high_node, deep_node}
use Rattle.expiry_lists.proofs.walks.key_over.Goals as goal

pub overflow_mul-meta-else-t-le15 : goal.overflow_mul-meta-else-t-le15
overflow_mul-meta-else-t-le15 c = omega (arith, deep_fits c.args.t.x c.args.t.z c.if-t-le15.false c.requires.x_fits)

pub overflow_mul-meta-else-t-le15-2 : goal.overflow_mul-meta-else-t-le15-2
overflow_mul-meta-else-t-le15-2 c = omega (arith, deep_fits c.args.t.y c.args.t.z c.if-t-le15.false c.requires.y_fits)

pub returns-then-t-le15-clause-node : goal.returns-then-t-le15-clause-node
returns-then-t-le15-clause-node c = high_node c.args.map c.args.t c.requires c.if-t-le15.true

pub returns-else-t-le15-clause-node : goal.returns-else-t-le15-clause-node
returns-else-t-le15-clause-node c = deep_node c.args.map c.args.t c.requires c.if-t-le15.false
