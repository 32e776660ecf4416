use Rattle.std.proofs.Common.{◌∙◌, arith}
use Rattle.plain_world.proofs.Squares.{overlap_iff, squares_turned}
use Rattle.merc_fixed.proofs.Ancestors.{meet_over, meet_under}
use Rattle.merc_fixed.proofs.squares.overlaps.Goals as goal

pub returns-then-a-b-clause-meaning : goal.returns-then-a-b-clause-meaning
returns-then-a-b-clause-meaning c = rw c.is_ancestor.ensures (overlap_iff c.args.a c.args.b)

pub returns-else-a-b-clause-meaning : goal.returns-else-a-b-clause-meaning
returns-else-a-b-clause-meaning c =
    rw (c.is_ancestor-else-a-b.ensures ∙ squares_turned c.args.b c.args.a) (overlap_iff c.args.a c.args.b)

pub returns-then-a-b-clause-ancestor : goal.returns-then-a-b-clause-ancestor
returns-then-a-b-clause-ancestor c =
    rw c.is_ancestor.ensures (meet_over c.args.a c.args.b c.requires.first.z_fits c.requires.second.z_fits (omega (arith, c.if-a-b.true)))

pub returns-else-a-b-clause-ancestor : goal.returns-else-a-b-clause-ancestor
returns-else-a-b-clause-ancestor c =
    rw (c.is_ancestor-else-a-b.ensures ∙ squares_turned c.args.b c.args.a)
    (meet_under c.args.a c.args.b c.requires.first.z_fits c.requires.second.z_fits (omega (arith, c.if-a-b.false)))
