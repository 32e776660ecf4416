use Rattle.std.proofs.Common.{false, Option, cond, ap, ◌∙◌}
use Rattle.farm_history.specs.Plans.{same_key}
use Rattle.expiry_lists.specs.Marks.{mark_of}
use Rattle.expiry_lists.specs.inner.Nodes.{Node, node_of, shown_of}
use Rattle.expiry_lists.proofs.Marking.{given_marks, given_tree, gone_node, gone_mark, gone_clean, gone_there}
use Rattle.expiry_lists.proofs.waking.drop_mark.Goals as goal
use Rattle.expiry_lists.proofs.waking.drop_mark.Goals.{After-len-after}

gone : (c : After-len-after) → Option Node
gone c = gone_node (node_of c.args.nodes.now.entries c.args.key)

pub returns-clause-tree : goal.returns-clause-tree
unfolding gone
returns-clause-tree c =
    let was = node_of c.args.nodes.now.entries c.args.key in
    given_tree c.args.nodes.now c.take.new.self c.args.key (gone c) c.take.ensures.nodes false c.take.ensures.owns c.requires c.take.ensures.own
    (λ some. c.requires.metas c.args.key (gone_there was some)) (λ some. c.requires.spotted c.args.key (gone_there was some)) (λ deep clean. let never = gone_clean was clean in cc)

pub returns-clause-marks : goal.returns-clause-marks
unfolding gone
returns-clause-marks c = λ k.
    given_marks c.args.nodes.now c.take.new.self c.args.key (gone c) c.take.ensures.nodes c.len-before.ensures.unique c.len-after.ensures.unique k
    ∙ ap (λ o. cond (same_key c.args.key k) o (mark_of (shown_of c.args.nodes.now.entries) k)) (gone_mark (node_of c.args.nodes.now.entries c.args.key))

pub returns-clause-there : goal.returns-clause-there
returns-clause-there c = c.take.ensures.owns.there
