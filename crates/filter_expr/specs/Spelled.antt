-- The grammar of filters: which tokens spell which filter.
use Rattle.std.specs.Prelude.{◌≡◌, ℕ, suc, ◌≤◌, Bool, true, false, ℤ, List, [], ◌∷◌, ◌++◌}
use Rattle.plain_filters.specs.declared.CompareSign.{CompareSign}
use Rattle.plain_filters.specs.declared.SumSign.{SumSign}
use Rattle.plain_filters.specs.declared.SumSign.TheVariants as sum
use Rattle.plain_filters.specs.declared.ProductSign.{ProductSign}
use Rattle.plain_filters.specs.declared.ProductSign.TheVariants as product
use Rattle.plain_filters.specs.Filters.{FilterTree, FilterTrees, SumTrees, ProductTrees, or_tree, and_tree, not_tree, compare_tree, sum_tree, product_tree, negate_tree, name_tree, text_tree, number_tree, truth_tree, null_tree, no_trees, tree_then, no_sums, sum_then, no_products, product_then}
use Rattle.filter_expr.specs.declared.tokens.Token.{Token}
use Rattle.filter_expr.specs.declared.tokens.Token.TheVariants as token

-- the token of a sum's sign
abbrev pub sum_token : SumSign → Token
sum_token sum.Plus = token.Plus
sum_token sum.Minus = token.Minus

-- the token of a product's sign
abbrev pub product_token : ProductSign → Token
product_token product.Times = token.Times
product_token product.Divide = token.Divide
product_token product.Rest = token.Rest

-- These tokens spell this filter, at a place that asks for at least this strength and has room for
-- so many `not`, signs of negatives and parentheses, one within another. Each form has its
-- strength: an `or` 0, an `and` 1, a `not` 2, a comparison 3, a sum 4, a product 5, a negative 6;
-- what is one token or stands in parentheses fits at every place. Where `wide`, a number that is
-- out of range stands for any number.
mutual
  pub data Spelled (wide : Bool) : ℕ → ℕ → FilterTree → List Token → Type 0 where
    or_form : {n d : ℕ} {s t : FilterTree} {ts : FilterTrees} {us vs : List Token} → n ≤ 0
        → Spelled wide 1 d s us → Parts wide token.Or 1 d (tree_then t ts) vs
        → Spelled wide n d (or_tree (tree_then s (tree_then t ts))) (us ++ vs)
    and_form : {n d : ℕ} {s t : FilterTree} {ts : FilterTrees} {us vs : List Token} → n ≤ 1
        → Spelled wide 2 d s us → Parts wide token.And 2 d (tree_then t ts) vs
        → Spelled wide n d (and_tree (tree_then s (tree_then t ts))) (us ++ vs)
    not_form : {n d : ℕ} {t : FilterTree} {us : List Token} → n ≤ 2
        → Spelled wide 2 d t us → Spelled wide n (suc d) (not_tree t) (token.Not ∷ us)
    compare_form : {n d : ℕ} {s t : FilterTree} {c : CompareSign} {us vs : List Token} → n ≤ 3
        → Spelled wide 4 d s us → Spelled wide 4 d t vs
        → Spelled wide n d (compare_tree s c t) (us ++ token.Compare c ∷ vs)
    sum_form : {n d : ℕ} {s t : FilterTree} {c : SumSign} {ts : SumTrees}
        {us vs : List Token} → n ≤ 4
        → Spelled wide 5 d s us → Sums wide d (sum_then c t ts) vs
        → Spelled wide n d (sum_tree s (sum_then c t ts)) (us ++ vs)
    product_form : {n d : ℕ} {s t : FilterTree} {c : ProductSign} {ts : ProductTrees}
        {us vs : List Token} → n ≤ 5
        → Spelled wide 6 d s us → Products wide d (product_then c t ts) vs
        → Spelled wide n d (product_tree s (product_then c t ts)) (us ++ vs)
    negate_form : {n d : ℕ} {t : FilterTree} {us : List Token} → n ≤ 6
        → Spelled wide 6 d t us → Spelled wide n (suc d) (negate_tree t) (token.Minus ∷ us)
    parens_form : {n d : ℕ} {t : FilterTree} {us : List Token}
        → Spelled wide 0 d t us → Spelled wide n (suc d) t (token.Open ∷ (us ++ token.Close ∷ []))
    name_form : {n d : ℕ} (s : List ℕ) → Spelled wide n d (name_tree s) (token.Name s ∷ [])
    text_form : {n d : ℕ} (s : List ℕ) → Spelled wide n d (text_tree s) (token.Quoted s ∷ [])
    number_form : {n d : ℕ} (z : ℤ) → Spelled wide n d (number_tree z) (token.Number z ∷ [])
    out_of_range_form : {n d : ℕ} (z : ℤ) → wide ≡ true
        → Spelled wide n d (number_tree z) (token.OutOfRange ∷ [])
    true_form : {n d : ℕ} → Spelled wide n d (truth_tree true) (token.True ∷ [])
    false_form : {n d : ℕ} → Spelled wide n d (truth_tree false) (token.False ∷ [])
    null_form : {n d : ℕ} → Spelled wide n d null_tree (token.Null ∷ [])

  -- later parts of an `or` or an `and`, each of this strength behind this sign
  pub data Parts (wide : Bool) : Token → ℕ → ℕ → FilterTrees → List Token → Type 0 where
    parts_end : {s : Token} {n d : ℕ} → Parts wide s n d no_trees []
    parts_then : {s : Token} {n d : ℕ} {t : FilterTree} {ts : FilterTrees} {us vs : List Token}
        → Spelled wide n d t us → Parts wide s n d ts vs
        → Parts wide s n d (tree_then t ts) (s ∷ (us ++ vs))

  -- later parts of a sum, each behind its sign
  pub data Sums (wide : Bool) : ℕ → SumTrees → List Token → Type 0 where
    sums_end : {d : ℕ} → Sums wide d no_sums []
    sums_then : {d : ℕ} {t : FilterTree} {c : SumSign} {ts : SumTrees} {us vs : List Token}
        → Spelled wide 5 d t us → Sums wide d ts vs
        → Sums wide d (sum_then c t ts) (sum_token c ∷ (us ++ vs))

  -- later parts of a product, each behind its sign
  pub data Products (wide : Bool) : ℕ → ProductTrees → List Token → Type 0 where
    products_end : {d : ℕ} → Products wide d no_products []
    products_then : {d : ℕ} {t : FilterTree} {c : ProductSign} {ts : ProductTrees}
        {us vs : List Token}
        → Spelled wide 6 d t us → Products wide d ts vs
        → Products wide d (product_then c t ts) (product_token c ∷ (us ++ vs))
