-- A filter tree can be told apart from every other by numbers alone, which a type that is seen as
-- trees asks for. Each kind of value has its code and the way back, and the way back from a code
-- gives the value again. No meaning of a filter rests on this file.
use Rattle.std.specs.Prelude.{ℕ, List, [], ◌∷◌, Bool, true, false, cond, ◌==◌, ℤ, pos, negsuc, ◌≡◌, refl}
use Rattle.std.proofs.Common.{sym, ◌∙◌, ap}
use base.Stored.{Gv, gnil, gnum, gcons, num, Coded}
use Rattle.plain_filters.specs.declared.expr.CompareSign.{CompareSign}
use Rattle.plain_filters.specs.declared.expr.CompareSign.TheVariants.{Equal, Unequal, Less, LessEqual, Greater, GreaterEqual}
use Rattle.plain_filters.specs.declared.expr.SumSign.{SumSign}
use Rattle.plain_filters.specs.declared.expr.SumSign.TheVariants.{Plus, Minus}
use Rattle.plain_filters.specs.declared.expr.ProductSign.{ProductSign}
use Rattle.plain_filters.specs.declared.expr.ProductSign.TheVariants.{Times, Divide, Rest}
use Rattle.plain_filters.specs.Filters.{FilterTree, FilterTrees, SumTrees, ProductTrees, or_tree, and_tree, not_tree, compare_tree, sum_tree, product_tree, negate_tree, name_tree, text_tree, number_tree, truth_tree, null_tree, no_trees, tree_then, no_sums, sum_then, no_products, product_then}

-- comparing signs as numbers, and back
abbrev compare_number : CompareSign → ℕ
compare_number Equal = 0
compare_number Unequal = 1
compare_number Less = 2
compare_number LessEqual = 3
compare_number Greater = 4
compare_number GreaterEqual = 5

-- a sign of comparison from its number
abbrev compare_back : ℕ → CompareSign
compare_back n = cond (n == 0) Equal (cond (n == 1) Unequal
    (cond (n == 2) Less (cond (n == 3) LessEqual (cond (n == 4) Greater GreaterEqual))))

-- signs of a sum
abbrev sum_number : SumSign → ℕ
sum_number Plus = 0
sum_number Minus = 1

-- a sign of a sum from its number
abbrev sum_back : ℕ → SumSign
sum_back n = cond (n == 0) Plus Minus

-- signs of a product
abbrev product_number : ProductSign → ℕ
product_number Times = 0
product_number Divide = 1
product_number Rest = 2

-- a sign of a product from its number
abbrev product_back : ℕ → ProductSign
product_back n = cond (n == 0) Times (cond (n == 1) Divide Rest)

-- texts
abbrev text_code : List ℕ → Gv
text_code [] = gnil
text_code (x ∷ xs) = gcons (gnum x) (text_code xs)

-- a text from its code
abbrev text_back : Gv → List ℕ
text_back gnil = []
text_back (gnum n) = []
text_back (gcons x xs) = num x ∷ text_back xs

-- whole numbers
abbrev number_code : ℤ → Gv
number_code (pos n) = gnum n
number_code (negsuc n) = gcons (gnum n) gnil

-- a whole number from its code
abbrev number_back : Gv → ℤ
number_back gnil = pos 0
number_back (gnum n) = pos n
number_back (gcons n g) = negsuc (num n)

-- truth values
abbrev truth_number : Bool → ℕ
truth_number true = 1
truth_number false = 0

-- each node has its kind, what it holds that is no tree, and at most two parts
abbrev node : ℕ → Gv → Gv → Gv → Gv
node kind held a b = gcons (gnum kind) (gcons held (gcons a b))

-- trees and their lists of parts
abbrev mutual
  tree_code : FilterTree → Gv
  tree_code (or_tree parts) = node 0 gnil gnil (trees_code parts)
  tree_code (and_tree parts) = node 1 gnil gnil (trees_code parts)
  tree_code (not_tree part) = node 2 gnil (tree_code part) gnil
  tree_code (compare_tree a sign b) =
      node 3 (gnum (compare_number sign)) (tree_code a) (tree_code b)
  tree_code (sum_tree first later) = node 4 gnil (tree_code first) (sums_code later)
  tree_code (product_tree first later) = node 5 gnil (tree_code first) (products_code later)
  tree_code (negate_tree part) = node 6 gnil (tree_code part) gnil
  tree_code (name_tree name) = node 7 (text_code name) gnil gnil
  tree_code (text_tree text) = node 8 (text_code text) gnil gnil
  tree_code (number_tree z) = node 9 (number_code z) gnil gnil
  tree_code (truth_tree b) = node 10 (gnum (truth_number b)) gnil gnil
  tree_code null_tree = gnil

  trees_code : FilterTrees → Gv
  trees_code no_trees = gnil
  trees_code (tree_then part later) = gcons (tree_code part) (trees_code later)

  sums_code : SumTrees → Gv
  sums_code no_sums = gnil
  sums_code (sum_then sign part later) =
      gcons (gnum (sum_number sign)) (gcons (tree_code part) (sums_code later))

  products_code : ProductTrees → Gv
  products_code no_products = gnil
  products_code (product_then sign part later) =
      gcons (gnum (product_number sign)) (gcons (tree_code part) (products_code later))

-- the tree of a node's parts, each read as a tree and as the lists that it may be
abbrev node_back : ℕ → Gv → FilterTree → FilterTree → FilterTrees → SumTrees → ProductTrees
    → FilterTree
node_back kind held a b bs sums products =
    cond (kind == 0) (or_tree bs) (cond (kind == 1) (and_tree bs) (cond (kind == 2) (not_tree a)
    (cond (kind == 3) (compare_tree a (compare_back (num held)) b)
    (cond (kind == 4) (sum_tree a sums) (cond (kind == 5) (product_tree a products)
    (cond (kind == 6) (negate_tree a) (cond (kind == 7) (name_tree (text_back held))
    (cond (kind == 8) (text_tree (text_back held))
    (cond (kind == 9) (number_tree (number_back held)) (truth_tree (num held == 1)))))))))))

-- a code read back as a tree or as a list of parts; what is no code gives the null of its kind
abbrev mutual
  tree_back : Gv → FilterTree
  tree_back gnil = null_tree
  tree_back (gnum n) = null_tree
  tree_back (gcons kind gnil) = null_tree
  tree_back (gcons kind (gnum n)) = null_tree
  tree_back (gcons kind (gcons held gnil)) = null_tree
  tree_back (gcons kind (gcons held (gnum n))) = null_tree
  tree_back (gcons kind (gcons held (gcons a b))) = node_back (num kind) held (tree_back a)
      (tree_back b) (trees_back b) (sums_back b) (products_back b)

  trees_back : Gv → FilterTrees
  trees_back gnil = no_trees
  trees_back (gnum n) = no_trees
  trees_back (gcons part later) = tree_then (tree_back part) (trees_back later)

  sums_back : Gv → SumTrees
  sums_back gnil = no_sums
  sums_back (gnum n) = no_sums
  sums_back (gcons sign gnil) = no_sums
  sums_back (gcons sign (gnum n)) = no_sums
  sums_back (gcons sign (gcons part later)) =
      sum_then (sum_back (num sign)) (tree_back part) (sums_back later)

  products_back : Gv → ProductTrees
  products_back gnil = no_products
  products_back (gnum n) = no_products
  products_back (gcons sign gnil) = no_products
  products_back (gcons sign (gnum n)) = no_products
  products_back (gcons sign (gcons part later)) =
      product_then (product_back (num sign)) (tree_back part) (products_back later)

-- what is read back from each kind's code is the value
compare_round : (s : CompareSign) → compare_back (compare_number s) ≡ s
compare_round Equal = refl
compare_round Unequal = refl
compare_round Less = refl
compare_round LessEqual = refl
compare_round Greater = refl
compare_round GreaterEqual = refl

sum_round : (s : SumSign) → sum_back (sum_number s) ≡ s
sum_round Plus = refl
sum_round Minus = refl

product_round : (s : ProductSign) → product_back (product_number s) ≡ s
product_round Times = refl
product_round Divide = refl
product_round Rest = refl

text_round : (xs : List ℕ) → text_back (text_code xs) ≡ xs
text_round [] = refl
text_round (x ∷ xs) = ap (λ t. x ∷ t) (text_round xs)

number_round : (z : ℤ) → number_back (number_code z) ≡ z
number_round (pos n) = refl
number_round (negsuc n) = refl

truth_round : (b : Bool) → (truth_number b == 1) ≡ b
truth_round true = refl
truth_round false = refl

-- what is read back from a tree's code is the tree
mutual
  pub tree_round : (t : FilterTree) → tree_back (tree_code t) ≡ t
  tree_round (or_tree parts) = λ i. or_tree (trees_round parts i)
  tree_round (and_tree parts) = λ i. and_tree (trees_round parts i)
  tree_round (not_tree part) = λ i. not_tree (tree_round part i)
  tree_round (compare_tree a sign b) =
      λ i. compare_tree (tree_round a i) (compare_round sign i) (tree_round b i)
  tree_round (sum_tree first later) = λ i. sum_tree (tree_round first i) (sums_round later i)
  tree_round (product_tree first later) =
      λ i. product_tree (tree_round first i) (products_round later i)
  tree_round (negate_tree part) = λ i. negate_tree (tree_round part i)
  tree_round (name_tree name) = λ i. name_tree (text_round name i)
  tree_round (text_tree text) = λ i. text_tree (text_round text i)
  tree_round (number_tree z) = λ i. number_tree (number_round z i)
  tree_round (truth_tree b) = λ i. truth_tree (truth_round b i)
  tree_round null_tree = refl

  trees_round : (ts : FilterTrees) → trees_back (trees_code ts) ≡ ts
  trees_round no_trees = refl
  trees_round (tree_then part later) = λ i. tree_then (tree_round part i) (trees_round later i)

  sums_round : (ts : SumTrees) → sums_back (sums_code ts) ≡ ts
  sums_round no_sums = refl
  sums_round (sum_then sign part later) =
      λ i. sum_then (sum_round sign i) (tree_round part i) (sums_round later i)

  products_round : (ts : ProductTrees) → products_back (products_code ts) ≡ ts
  products_round no_products = refl
  products_round (product_then sign part later) =
      λ i. product_then (product_round sign i) (tree_round part i) (products_round later i)

-- the codes of filter trees, no two of which are alike
abbrev pub filter_code : Coded FilterTree
filter_code =
    record { code = tree_code; inj = λ x y e. sym (tree_round x) ∙ ap tree_back e ∙ tree_round y }
