use Rattle.std.proofs.Common.{◌≡◌, ◌∙◌, ℕ, List, map, ap, sym}
use Rattle.std.proofs.lemmas.Result.{IfOk-weaker}
use Rattle.plain_filters.specs.Filters.{FilterTree, or_tree, and_tree, not_tree, compare_tree, trees_of, tree_of}
use Rattle.filter_expr.specs.Numbered.{side_tree, stands_for}
use Rattle.filter_expr.proofs.Nodes.{tree-Or, tree-And, tree-Not, tree-Compare}
use Rattle.filter_expr.proofs.Numbers.{stands-Any, stands-All, stands-Compare}
use Rattle.filter_expr.proofs.numbered.+numbering.Goals as goal

pub numbered-returns-in_ok-numbered_parts-in-Or : goal.numbered-returns-in_ok-numbered_parts-in-Or
numbered-returns-in_ok-numbered_parts-in-Or t c =
    let names = map (λ m. m.now) c.args.names.now in
    stands-Any names c.in_ok-numbered_parts-in-Or.field-0
    ∙ ap (λ l. or_tree (trees_of l)) (c.in_ok-numbered_parts-in-Or.ensures ∙ ap (map tree_of) c.deref.ensures.value)
    ∙ sym (ap tree_of c.in-Or.is ∙ tree-Or c.in-Or.parts)

pub numbered-returns-in_ok-numbered_parts-in-And : goal.numbered-returns-in_ok-numbered_parts-in-And
numbered-returns-in_ok-numbered_parts-in-And t c =
    let names = map (λ m. m.now) c.args.names.now in
    stands-All names c.in_ok-numbered_parts-in-And.field-0
    ∙ ap (λ l. and_tree (trees_of l)) (c.in_ok-numbered_parts-in-And.ensures ∙ ap (map tree_of) c.deref-in-And.ensures.value)
    ∙ sym (ap tree_of c.in-And.is ∙ tree-And c.in-And.parts)

pub numbered-returns-in_ok-numbered-in-Not : goal.numbered-returns-in_ok-numbered-in-Not
numbered-returns-in_ok-numbered-in-Not t c =
    let names = map (λ m. m.now) c.args.names.now in
    let part = stands_for names c.in_ok-numbered-in-Not.field-0 in
    let turned : not_tree part ≡ tree_of c.args.e.now =
    ap not_tree (c.in_ok-numbered-in-Not.ensures ∙ ap tree_of c.deref-in-Not.ensures) ∙ sym (ap tree_of c.in-Not.is ∙ tree-Not c.in-Not.part) in
    IfOk-weaker c.negated.result (λ n. (names : List (List ℕ)) → stands_for names n ≡ not_tree (stands_for names c.in_ok-numbered-in-Not.field-0)) (λ n. stands_for names n ≡ tree_of c.args.e.now)
    (λ n h. h names ∙ turned) c.negated.ensures

pub numbered-returns-in-Compare : goal.numbered-returns-in-Compare
numbered-returns-in-Compare t c =
    let names = map (λ m. m.now) c.args.names.now in
    let sign = c.in-Compare.sign in
    let right : FilterTree = side_tree names c.side_of-in-Compare.result in
    stands-Compare names c.side_of.result sign c.side_of-in-Compare.result
    ∙ ap (λ a. compare_tree a sign right) (c.side_of.ensures ∙ ap tree_of c.deref-in-Compare.ensures)
    ∙ ap (compare_tree (tree_of c.in-Compare.a.value) sign) (c.side_of-in-Compare.ensures ∙ ap tree_of c.deref-in-Compare-2.ensures)
    ∙ sym (ap tree_of c.in-Compare.is ∙ tree-Compare c.in-Compare.a sign c.in-Compare.b)
