use Rattle.std.proofs.Common.{sym, ◌∙◌}
use Rattle.expiry_lists.specs.Marks.{is_in_box}
use Rattle.expiry_lists.proofs.Boxed.{walks_passed, walks_failed}
use Rattle.expiry_lists.proofs.rectangles.mark_key_dirty.Goals as goal

pub returns-then-is_in_box-clause-walks : goal.returns-then-is_in_box-clause-walks
returns-then-is_in_box-clause-walks c =
    walks_passed (is_in_box c.args.map c.args.z c.args.b) c.args.key (sym c.is_in_box.ensures ∙ c.if-is_in_box.true) c.mark_one_dirty.ensures.walks

pub returns-else-is_in_box-clause-walks : goal.returns-else-is_in_box-clause-walks
returns-else-is_in_box-clause-walks c =
    walks_failed (is_in_box c.args.map c.args.z c.args.b) c.args.key c.args.nodes.now (sym c.is_in_box.ensures ∙ c.if-is_in_box.false) c.requires.tree
