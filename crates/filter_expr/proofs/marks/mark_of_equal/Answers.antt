use Rattle.std.proofs.Common.{rules, ◌≡◌, refl, ap, sym, ◌∙◌}
use Rattle.std.specs.Int.{bit_at}
use Rattle.farm_base.specs.declared.Value.TheVariants.{Truth, Whole, Text}
use Rattle.attribute_marks.specs.Marks.{mark_of}
use Rattle.plain_filters.specs.Values.{attribute, same}
use Rattle.plain_filters.specs.Filters.{tree_of, tree_value}
use Rattle.filter_expr.proofs.Marked.{mark_there}
use Rattle.filter_expr.proofs.Nodes.{tree-Text, tree-Number, tree-Truth}
use Rattle.filter_expr.proofs.marks.mark_of_equal.Goals as goal

pub returns-in-Text-clause-asks : goal.returns-in-Text-clause-asks
returns-in-Text-clause-asks c attrs marks has e =
    let name = c.args.name.now in
    let is = ap (λ x. tree_value attrs (tree_of x)) c.in-Text.is ∙ ap (tree_value attrs) (tree-Text c.in-Text.text) in
    ap (bit_at marks) (c.mark_of_text.ensures.value ∙ ap (λ t. mark_of name (Text t)) c.as_str.ensures)
    ∙ mark_there name (Text c.in-Text.text) attrs marks refl has (ap (same (attribute name attrs)) (sym is) ∙ e)

pub returns-in-Number-clause-asks : goal.returns-in-Number-clause-asks
returns-in-Number-clause-asks c attrs marks has e =
    let name = c.args.name.now in
    let is = ap (λ x. tree_value attrs (tree_of x)) c.in-Number.is ∙ ap (tree_value attrs) (tree-Number c.in-Number.whole) in
    let mark : c.mark_of_whole.result ≡ mark_of name (Whole c.in-Number.whole) = search rules in
    ap (bit_at marks) mark
    ∙ mark_there name (Whole c.in-Number.whole) attrs marks refl has (ap (same (attribute name attrs)) (sym is) ∙ e)

pub returns-in-Truth-clause-asks : goal.returns-in-Truth-clause-asks
returns-in-Truth-clause-asks c attrs marks has e =
    let name = c.args.name.now in
    let is = ap (λ x. tree_value attrs (tree_of x)) c.in-Truth.is ∙ ap (tree_value attrs) (tree-Truth c.in-Truth.truth) in
    ap (bit_at marks) c.mark_of_truth.ensures.value
    ∙ mark_there name (Truth c.in-Truth.truth) attrs marks refl has (ap (same (attribute name attrs)) (sym is) ∙ e)
