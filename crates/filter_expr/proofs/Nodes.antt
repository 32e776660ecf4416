-- The tree and the value of each node of an expression, by those of its parts.
use Rattle.std.proofs.Common.{◌≡◌, ℕ, Bool, ℤ, List, [], ◌∷◌, map, ◌||◌, ◌&&◌, not, refl, sym, ◌∙◌, ap}
use Rattle.std.specs.List.{list_any, list_all}
use Rattle.std.specs.declared.boxed.Box.{Box}
use Rattle.std.specs.declared.vec.Vec.{Vec}
use Rattle.std.specs.declared.alloc.Global.{Global}
use Rattle.farm_base.specs.declared.Attr.{Attr}
use Rattle.farm_base.specs.declared.Value.{Value}
use Rattle.farm_base.specs.declared.Value.TheVariants.{Truth}
use Rattle.plain_filters.specs.declared.Expr.{Expr, fold-roll-Expr, roll-Expr, map-Expr}
use Rattle.plain_filters.specs.declared.Expr.TheVariants as node
use Rattle.plain_filters.specs.declared.Expr.TheOpen as «open»
use Rattle.plain_filters.specs.declared.SumPart.{SumPart, fold-roll-SumPart, roll-SumPart}
use Rattle.plain_filters.specs.declared.ProductPart.{ProductPart, fold-roll-ProductPart, roll-ProductPart}
use Rattle.plain_filters.specs.declared.SumSign.{SumSign}
use Rattle.plain_filters.specs.declared.ProductSign.{ProductSign}
use Rattle.plain_filters.specs.declared.CompareSign.{CompareSign}
use Rattle.plain_filters.specs.Values.{truth, compares, negative_of, sum_of, product_of}
use Rattle.filter_expr.specs.declared.tokens.Token.{Token}
use Rattle.filter_expr.specs.inner.Parts.{valued, tree_of_sum, tree_of_product, read_sum, read_product, sum_part, product_part, sum_value, product_value}
use Rattle.filter_expr.specs.Spelled.{sum_token, product_token}
use Rattle.filter_expr.specs.Reading.{Part}
use Rattle.plain_filters.specs.Filters.{FilterTree, or_tree, and_tree, not_tree, compare_tree, sum_tree, product_tree, negate_tree, name_tree, text_tree, number_tree, truth_tree, null_tree, tree_of, tree_value, any_true, all_true, after_sums, after_products, trees_of, sums_of, products_of, tree_step, sum_part_step, product_part_step}

-- ---- trees

rolled : (d : open.Expr-F Expr ProductPart SumPart) (e : Expr) → roll-Expr d ≡ e →
    tree_of e ≡ tree_step (map-Expr Expr ProductPart SumPart FilterTree (ProductSign × FilterTree) (SumSign × FilterTree) tree_of tree_of_product tree_of_sum d)
rolled d e q = ap tree_of (sym q) ∙ fold-roll-Expr FilterTree (ProductSign × FilterTree) (SumSign × FilterTree) tree_step product_part_step sum_part_step d

pub tree-Or : (v : Vec Expr Global) → tree_of (node.Or v) ≡ or_tree (trees_of (map tree_of v.items))
tree-Or v = rolled (open.Or v) (node.Or v) (node.rolls-Or v)

pub tree-And : (v : Vec Expr Global) → tree_of (node.And v) ≡ and_tree (trees_of (map tree_of v.items))
tree-And v = rolled (open.And v) (node.And v) (node.rolls-And v)

pub tree-Not : (b : Box Expr Global) → tree_of (node.Not b) ≡ not_tree (tree_of b.value)
tree-Not b = rolled (open.Not b) (node.Not b) (node.rolls-Not b)

pub tree-Compare : (a : Box Expr Global) (s : CompareSign) (b : Box Expr Global) → tree_of (node.Compare a s b) ≡ compare_tree (tree_of a.value) s (tree_of b.value)
tree-Compare a s b = rolled (open.Compare a s b) (node.Compare a s b) (node.rolls-Compare a s b)

pub tree-Sum : (b : Box Expr Global) (v : Vec SumPart Global) → tree_of (node.Sum b v) ≡ sum_tree (tree_of b.value) (sums_of (map tree_of_sum v.items))
tree-Sum b v = rolled (open.Sum b v) (node.Sum b v) (node.rolls-Sum b v)

pub tree-Product : (b : Box Expr Global) (v : Vec ProductPart Global) → tree_of (node.Product b v) ≡ product_tree (tree_of b.value) (products_of (map tree_of_product v.items))
tree-Product b v = rolled (open.Product b v) (node.Product b v) (node.rolls-Product b v)

pub tree-Negate : (b : Box Expr Global) → tree_of (node.Negate b) ≡ negate_tree (tree_of b.value)
tree-Negate b = rolled (open.Negate b) (node.Negate b) (node.rolls-Negate b)

pub tree-Name : (n : List ℕ) → tree_of (node.Name n) ≡ name_tree n
tree-Name n = rolled (open.Name n) (node.Name n) (node.rolls-Name n)

pub tree-Text : (t : List ℕ) → tree_of (node.Text t) ≡ text_tree t
tree-Text t = rolled (open.Text t) (node.Text t) (node.rolls-Text t)

pub tree-Number : (z : ℤ) → tree_of (node.Number z) ≡ number_tree z
tree-Number z = rolled (open.Number z) (node.Number z) (node.rolls-Number z)

pub tree-Truth : (b : Bool) → tree_of (node.Truth b) ≡ truth_tree b
tree-Truth b = rolled (open.Truth b) (node.Truth b) (node.rolls-Truth b)

pub tree-Null : tree_of node.Null ≡ null_tree
tree-Null = rolled open.Null node.Null node.rolls-Null

pub ruleset trees = (tree-Not, tree-Compare, tree-Negate, tree-Name, tree-Text, tree-Number, tree-Truth, tree-Null)

abbrev part_of : Token → FilterTree → Part
part_of s t = (s, t)

pub read_sum-made : (p : open.SumPart-F Expr ProductPart SumPart) → read_sum (roll-SumPart p) ≡ (sum_token p.sign, tree_of p.part)
read_sum-made p =
    ap (λ (q : SumSign × FilterTree). part_of (sum_token q.0) q.1)
    (fold-roll-SumPart FilterTree (ProductSign × FilterTree) (SumSign × FilterTree) tree_step product_part_step sum_part_step p)

pub read_product-made : (p : open.ProductPart-F Expr ProductPart SumPart) → read_product (roll-ProductPart p) ≡ (product_token p.sign, tree_of p.part)
read_product-made p =
    ap (λ (q : ProductSign × FilterTree). part_of (product_token q.0) q.1)
    (fold-roll-ProductPart FilterTree (ProductSign × FilterTree) (SumSign × FilterTree) tree_step product_part_step sum_part_step p)

-- ---- values

any_listed : (attrs : List Attr) (es : List Expr) → any_true attrs (trees_of (map tree_of es)) ≡ list_any truth (map (valued attrs) es)
any_listed attrs [] = refl
any_listed attrs (e ∷ es) = ap (λ b. truth (valued attrs e) || b) (any_listed attrs es)

all_listed : (attrs : List Attr) (es : List Expr) → all_true attrs (trees_of (map tree_of es)) ≡ list_all truth (map (valued attrs) es)
all_listed attrs [] = refl
all_listed attrs (e ∷ es) = ap (λ b. truth (valued attrs e) && b) (all_listed attrs es)

sums_listed : (attrs : List Attr) (v : Value) (ps : List SumPart) → after_sums attrs v (sums_of (map tree_of_sum ps)) ≡ sum_value v (map (sum_part attrs) ps)
sums_listed attrs v [] = refl
sums_listed attrs v (p ∷ ps) = sums_listed attrs (sum_of (tree_of_sum p).0 v (tree_value attrs (tree_of_sum p).1)) ps

products_listed : (attrs : List Attr) (v : Value) (ps : List ProductPart) → after_products attrs v (products_of (map tree_of_product ps)) ≡ product_value v (map (product_part attrs) ps)
products_listed attrs v [] = refl
products_listed attrs v (p ∷ ps) = products_listed attrs (product_of (tree_of_product p).0 v (tree_value attrs (tree_of_product p).1)) ps

pub valued-Or : (attrs : List Attr) (v : Vec Expr Global) → valued attrs (node.Or v) ≡ Truth (list_any truth (map (valued attrs) v.items))
valued-Or attrs v = ap (tree_value attrs) (tree-Or v) ∙ ap Truth (any_listed attrs v.items)

pub valued-And : (attrs : List Attr) (v : Vec Expr Global) → valued attrs (node.And v) ≡ Truth (list_all truth (map (valued attrs) v.items))
valued-And attrs v = ap (tree_value attrs) (tree-And v) ∙ ap Truth (all_listed attrs v.items)

pub valued-Not : (attrs : List Attr) (b : Box Expr Global) → valued attrs (node.Not b) ≡ Truth (not (truth (valued attrs b.value)))
valued-Not attrs b = ap (tree_value attrs) (tree-Not b)

pub valued-Compare : (attrs : List Attr) (a : Box Expr Global) (s : CompareSign) (b : Box Expr Global)
    → valued attrs (node.Compare a s b) ≡ Truth (compares s (valued attrs a.value) (valued attrs b.value))
valued-Compare attrs a s b = ap (tree_value attrs) (tree-Compare a s b)

pub valued-Sum : (attrs : List Attr) (b : Box Expr Global) (v : Vec SumPart Global) → valued attrs (node.Sum b v) ≡ sum_value (valued attrs b.value) (map (sum_part attrs) v.items)
valued-Sum attrs b v = ap (tree_value attrs) (tree-Sum b v) ∙ sums_listed attrs (valued attrs b.value) v.items

pub valued-Product : (attrs : List Attr) (b : Box Expr Global) (v : Vec ProductPart Global) → valued attrs (node.Product b v) ≡ product_value (valued attrs b.value) (map (product_part attrs) v.items)
valued-Product attrs b v = ap (tree_value attrs) (tree-Product b v) ∙ products_listed attrs (valued attrs b.value) v.items

pub valued-Negate : (attrs : List Attr) (b : Box Expr Global) → valued attrs (node.Negate b) ≡ negative_of (valued attrs b.value)
valued-Negate attrs b = ap (tree_value attrs) (tree-Negate b)

pub ruleset nodes = (valued-Or, valued-And, valued-Not, valued-Compare, valued-Sum, valued-Product, valued-Negate)
