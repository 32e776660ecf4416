use Rattle.std.proofs.Common.{List, map, ap, sym, subst, ◌∙◌, arith}
use Rattle.std.specs.Prelude.{All}
use Rattle.std.proofs.lemmas.List.{take_all}
use Rattle.plain_filters.specs.declared.Expr.{Expr}
use Rattle.plain_filters.specs.Filters.{and_tree, tree_of, trees_of}
use Rattle.filter_expr.specs.Marked.{AsksFor}
use Rattle.filter_expr.proofs.Marked.{or_asks, and_asks, parts_more, weaker}
use Rattle.filter_expr.proofs.Nodes.{tree-Or, tree-And}
use Rattle.filter_expr.proofs.marks.+asking.Goals as goal

pub asked_marks-returns-in-Or : goal.asked_marks-returns-in-Or
asked_marks-returns-in-Or t c =
    weaker c.marks_of_all.result (λ asked all. subst (AsksFor asked) (sym (ap tree_of c.in-Or.is ∙ tree-Or c.in-Or.parts))
    (or_asks asked c.in-Or.parts.items (subst (λ (parts : List Expr). All (λ e. AsksFor asked (tree_of e)) parts) c.deref.ensures.value all))) c.marks_of_all.ensures

pub asked_marks-returns-in-And : goal.asked_marks-returns-in-And
asked_marks-returns-in-And t c =
    weaker c.marks_of_one.result (λ asked asks. subst (AsksFor asked) (sym (ap tree_of c.in-And.is ∙ tree-And c.in-And.parts))
    (subst (λ (parts : List Expr). AsksFor asked (and_tree (trees_of (map tree_of parts)))) c.deref-in-And.ensures.value asks)) c.marks_of_one.ensures

pub marks_of_all-loop-part-preserved : goal.marks_of_all-loop-part-preserved
marks_of_all-loop-part-preserved t c =
    parts_more c.loop-part.asked c.in_ok-asked.field-0 c.args.parts.now c.loop-part.part-index c.part-item.result c.loop-part-test.true c.part-item.is c.loop-part.invariant c.in_ok-asked.ensures

pub marks_of_all-returns : goal.marks_of_all-returns
marks_of_all-returns t c =
    subst (λ (parts : List Expr). All (λ e. AsksFor c.loop-part.asked (tree_of e)) parts) (take_all c.loop-part.part-index c.args.parts.now (omega (arith, c.loop-part-test.false))) c.loop-part.invariant

pub marks_of_one-returns-in-Some : goal.marks_of_one-returns-in-Some
marks_of_one-returns-in-Some t c =
    and_asks c.in-Some.asked c.args.parts.now c.loop-part.part-index c.part-item.result c.loop-part-test.true c.part-item.is c.in-Some.ensures
