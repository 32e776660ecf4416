use Rattle.std.proofs.Common.{Some}
use Rattle.expiry_lists.proofs.Marking.{given_marks, given_tree}
use Rattle.expiry_lists.proofs.waking.put_mark.Goals as goal

pub returns-clause-tree : goal.returns-clause-tree
returns-clause-tree c =
    given_tree c.args.nodes.now c.give.new.self c.args.key (Some (record { mark = Some c.args.mark })) c.give.ensures.nodes c.args.mark.clean c.give.ensures.owns c.requires.tree c.give.ensures.own (λ some. c.requires.meta) (λ some. c.requires.there) c.requires.live

pub returns-clause-marks : goal.returns-clause-marks
returns-clause-marks c = given_marks c.args.nodes.now c.give.new.self c.args.key (Some (record { mark = Some c.args.mark })) c.give.ensures.nodes c.len-before.ensures.unique c.len-after.ensures.unique

pub returns-clause-there : goal.returns-clause-there
returns-clause-there c = c.give.ensures.owns.there
