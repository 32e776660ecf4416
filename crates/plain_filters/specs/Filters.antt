-- Filters as plain trees, and their values for the attributes of a feature (Mapnik's filter
-- expressions).
use Rattle.std.specs.Prelude.{ℕ, List, [], ◌∷◌, Bool, true, false, not, ◌&&◌, ◌||◌, ℤ}
use Rattle.farm_base.specs.declared.Value.{Value}
use Rattle.farm_base.specs.declared.Value.TheVariants.{Null, Truth, Whole, Text}
use Rattle.farm_base.specs.declared.Attr.{Attr}
use Rattle.plain_filters.specs.declared.expr.Expr.{Expr, fold-Expr}
use Rattle.plain_filters.specs.declared.expr.Expr.TheOpen as «open»
use Rattle.plain_filters.specs.declared.expr.CompareSign.{CompareSign}
use Rattle.plain_filters.specs.declared.expr.SumSign.{SumSign}
use Rattle.plain_filters.specs.declared.expr.ProductSign.{ProductSign}
use Rattle.plain_filters.specs.Values.{truth, attribute, compares, sum_of, product_of, negative_of}

-- a filter: `or` and `and` of parts, `not`, a comparison, a sum or a product with its later parts,
-- a minus sign, and the atoms
mutual
  pub data FilterTree : Type 0 where
    or_tree : FilterTrees → FilterTree
    and_tree : FilterTrees → FilterTree
    not_tree : FilterTree → FilterTree
    compare_tree : FilterTree → CompareSign → FilterTree → FilterTree
    sum_tree : FilterTree → SumTrees → FilterTree
    product_tree : FilterTree → ProductTrees → FilterTree
    negate_tree : FilterTree → FilterTree
    name_tree : List ℕ → FilterTree
    text_tree : List ℕ → FilterTree
    number_tree : ℤ → FilterTree
    truth_tree : Bool → FilterTree
    null_tree : FilterTree

  -- the parts of an `or` or `and`
  pub data FilterTrees : Type 0 where
    no_trees : FilterTrees
    tree_then : FilterTree → FilterTrees → FilterTrees

  -- the later parts of a sum, each with its sign
  pub data SumTrees : Type 0 where
    no_sums : SumTrees
    sum_then : SumSign → FilterTree → SumTrees → SumTrees

  -- the later parts of a product, each with its sign
  pub data ProductTrees : Type 0 where
    no_products : ProductTrees
    product_then : ProductSign → FilterTree → ProductTrees → ProductTrees

-- the value of a filter for these attributes, by cases
abbrev mutual
  pub tree_value : List Attr → FilterTree → Value
  tree_value attrs (or_tree parts) = Truth (any_true attrs parts)
  tree_value attrs (and_tree parts) = Truth (all_true attrs parts)
  tree_value attrs (not_tree part) = Truth (not (truth (tree_value attrs part)))
  tree_value attrs (compare_tree a sign b) =
      Truth (compares sign (tree_value attrs a) (tree_value attrs b))
  tree_value attrs (sum_tree first later) = after_sums attrs (tree_value attrs first) later
  tree_value attrs (product_tree first later) = after_products attrs (tree_value attrs first) later
  tree_value attrs (negate_tree part) = negative_of (tree_value attrs part)
  tree_value attrs (name_tree name) = attribute name attrs
  tree_value attrs (text_tree text) = Text text
  tree_value attrs (number_tree z) = Whole z
  tree_value attrs (truth_tree b) = Truth b
  tree_value attrs null_tree = Null

  -- one of the parts counts as true
  pub any_true : List Attr → FilterTrees → Bool
  any_true attrs no_trees = false
  any_true attrs (tree_then part later) = truth (tree_value attrs part) || any_true attrs later

  -- each of the parts counts as true
  pub all_true : List Attr → FilterTrees → Bool
  all_true attrs no_trees = true
  all_true attrs (tree_then part later) = truth (tree_value attrs part) && all_true attrs later

  -- a value with the later parts of a sum, from the left
  pub after_sums : List Attr → Value → SumTrees → Value
  after_sums attrs v no_sums = v
  after_sums attrs v (sum_then sign part later) =
      after_sums attrs (sum_of sign v (tree_value attrs part)) later

  -- a value with the later parts of a product, from the left
  pub after_products : List Attr → Value → ProductTrees → Value
  after_products attrs v no_products = v
  after_products attrs v (product_then sign part later) =
      after_products attrs (product_of sign v (tree_value attrs part)) later

-- the filter holds where its value counts as true
abbrev pub tree_holds : List Attr → FilterTree → Bool
tree_holds attrs t = truth (tree_value attrs t)

-- the parts of an `or` or `and` from a list
abbrev pub trees_of : List FilterTree → FilterTrees
trees_of [] = no_trees
trees_of (t ∷ ts) = tree_then t (trees_of ts)

-- the later parts of a sum from a list
abbrev pub sums_of : List (SumSign × FilterTree) → SumTrees
sums_of [] = no_sums
sums_of (p ∷ ps) = sum_then p.0 p.1 (sums_of ps)

-- the later parts of a product from a list
abbrev pub products_of : List (ProductSign × FilterTree) → ProductTrees
products_of [] = no_products
products_of (p ∷ ps) = product_then p.0 p.1 (products_of ps)

-- one node of an expression, its parts being their trees
abbrev pub tree_step : open.Expr-F FilterTree (ProductSign × FilterTree) (SumSign × FilterTree)
    → FilterTree
tree_step (open.Or parts) = or_tree (trees_of parts.items)
tree_step (open.And parts) = and_tree (trees_of parts.items)
tree_step (open.Not e) = not_tree e.value
tree_step (open.Compare a sign b) = compare_tree a.value sign b.value
tree_step (open.Sum e parts) = sum_tree e.value (sums_of parts.items)
tree_step (open.Product e parts) = product_tree e.value (products_of parts.items)
tree_step (open.Negate e) = negate_tree e.value
tree_step (open.Name name) = name_tree name
tree_step (open.Text t) = text_tree t
tree_step (open.Number z) = number_tree z
tree_step (open.Truth b) = truth_tree b
tree_step open.Null = null_tree

-- a later part of a sum: its sign, and its tree
abbrev pub sum_part_step : open.SumPart-F FilterTree (ProductSign × FilterTree)
    (SumSign × FilterTree) → SumSign × FilterTree
sum_part_step p = (p.sign, p.part)

-- a later part of a product likewise
abbrev pub product_part_step : open.ProductPart-F FilterTree (ProductSign × FilterTree)
    (SumSign × FilterTree) → ProductSign × FilterTree
product_part_step p = (p.sign, p.part)

-- the tree that an expression is
abbrev pub tree_of : Expr → FilterTree
tree_of = fold-Expr FilterTree (ProductSign × FilterTree) (SumSign × FilterTree)
    tree_step product_part_step sum_part_step
