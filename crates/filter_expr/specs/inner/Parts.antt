-- The later parts of sums and products one by one, and the values of chains from the left. Words of
-- the functions that read, write and compute them; the meaning of a filter is that of its tree.
use Rattle.std.specs.Prelude.{List, [], ◌∷◌}
use Rattle.farm_base.specs.declared.Value.{Value}
use Rattle.farm_base.specs.declared.Attr.{Attr}
use Rattle.plain_filters.specs.declared.Expr.{Expr}
use Rattle.plain_filters.specs.declared.SumPart.{SumPart, fold-SumPart}
use Rattle.plain_filters.specs.declared.SumSign.{SumSign}
use Rattle.plain_filters.specs.declared.ProductPart.{ProductPart, fold-ProductPart}
use Rattle.plain_filters.specs.declared.ProductSign.{ProductSign}
use Rattle.plain_filters.specs.Values.{sum_of, product_of}
use Rattle.plain_filters.specs.Filters.{FilterTree, tree_of, tree_value, tree_step, sum_part_step, product_part_step}
use Rattle.filter_expr.specs.Spelled.{sum_token, product_token}
use Rattle.filter_expr.specs.Reading.{Part}

-- the value of an expression's tree
abbrev pub valued : List Attr → Expr → Value
valued attrs e = tree_value attrs (tree_of e)

-- a later part of a sum as its sign and its tree
abbrev pub tree_of_sum : SumPart → SumSign × FilterTree
tree_of_sum = fold-SumPart FilterTree (ProductSign × FilterTree) (SumSign × FilterTree)
    tree_step product_part_step sum_part_step

-- a later part of a product as its sign and its tree
abbrev pub tree_of_product : ProductPart → ProductSign × FilterTree
tree_of_product = fold-ProductPart FilterTree (ProductSign × FilterTree) (SumSign × FilterTree)
    tree_step product_part_step sum_part_step

-- a later part of a sum as the token of its sign and its tree
abbrev pub read_sum : SumPart → Part
read_sum p = (sum_token (tree_of_sum p).0, (tree_of_sum p).1)

-- a later part of a product as the token of its sign and its tree
abbrev pub read_product : ProductPart → Part
read_product p = (product_token (tree_of_product p).0, (tree_of_product p).1)

-- a later part of a sum as its sign and its value
abbrev pub sum_part : List Attr → SumPart → SumSign × Value
sum_part attrs p = ((tree_of_sum p).0, tree_value attrs (tree_of_sum p).1)

-- a later part of a product as its sign and its value
abbrev pub product_part : List Attr → ProductPart → ProductSign × Value
product_part attrs p = ((tree_of_product p).0, tree_value attrs (tree_of_product p).1)

-- a value with the later parts of a sum, each with its sign
abbrev pub sum_value : Value → List (SumSign × Value) → Value
sum_value v [] = v
sum_value v (p ∷ later) = sum_value (sum_of p.0 v p.1) later

-- a value with the later parts of a product
abbrev pub product_value : Value → List (ProductSign × Value) → Value
product_value v [] = v
product_value v (p ∷ later) = product_value (product_of p.0 v p.1) later
