-- A reader of token lists, one function for each row of the grammar's table: it says which filter
-- the tokens begin with, or at which token they go wrong. What it reads is tied to the grammar by
-- proof.
use Rattle.std.specs.Prelude.{ℕ, zero, suc, Bool, true, false, if◌then◌else◌, List, [], ◌∷◌, ◌++◌, drop, length}
use Rattle.plain_filters.specs.declared.CompareSign.{CompareSign}
use Rattle.plain_filters.specs.declared.CompareSign.TheVariants as «compare»
use Rattle.plain_filters.specs.declared.SumSign.{SumSign}
use Rattle.plain_filters.specs.declared.SumSign.TheVariants as sum
use Rattle.plain_filters.specs.declared.ProductSign.{ProductSign}
use Rattle.plain_filters.specs.declared.ProductSign.TheVariants as product
use Rattle.plain_filters.specs.Filters.{FilterTree, FilterTrees, SumTrees, ProductTrees, or_tree, and_tree, not_tree, compare_tree, sum_tree, product_tree, negate_tree, name_tree, text_tree, number_tree, truth_tree, null_tree, no_trees, tree_then, no_sums, sum_then, no_products, product_then}
use Rattle.filter_expr.specs.declared.tokens.Token.{Token}
use Rattle.filter_expr.specs.declared.tokens.Token.TheVariants as token
use Rattle.filter_expr.specs.declared.tokens.PlacedToken.{PlacedToken}
use Rattle.filter_expr.specs.declared.faults.FilterFault.{FilterFault}
use Rattle.filter_expr.specs.declared.faults.FilterFault.TheVariants.{Bad, NumberRange, TooDeep}
use Rattle.filter_expr.specs.Signs.{Kind, or_chain, and_chain, sum_chain, product_chain, joins, is_leaf, is_out_of_range, is_open_paren, is_close_paren, is_minus, is_not, is_compare, is_end}

-- what was read and what is left; or a fault, which stands at the first of what is left
pub data Step (A : Type 0) : Type 0 where
  got : A → List PlacedToken → Step A
  failed : FilterFault → List PlacedToken → Step A

-- a way to read something from the front of the tokens
abbrev pub Reader : Type 0 → Type 0
Reader A = List PlacedToken → Step A

-- reads on where something was read; a fault ends the reading
abbrev pub then_read : {A B : Type 0} → Step A → (A → Reader B) → Step B
then_read (got x ts) next = next x ts
then_read (failed f ts) next = failed f ts

-- ---- the next token

-- there is a first token, and it passes the test
abbrev pub starts : (Token → Bool) → List PlacedToken → Bool
starts test [] = false
starts test (s ∷ ts) = test s.token

-- the first token, or the end of the text where there is none
abbrev pub first_token : List PlacedToken → Token
first_token [] = token.End
first_token (s ∷ ts) = s.token

-- where in the text the first token stands, or 0 where there is none
abbrev pub place : List PlacedToken → ℕ
place [] = 0
place (s ∷ ts) = s.offset

-- the filter that one token is: a name, a text, a number or a truth value, and null for every other
-- token
abbrev pub leaf_tree : Token → FilterTree
leaf_tree (token.Name n) = name_tree n
leaf_tree (token.Quoted t) = text_tree t
leaf_tree (token.Number z) = number_tree z
leaf_tree token.True = truth_tree true
leaf_tree token.False = truth_tree false
leaf_tree _ = null_tree

-- the sign of a token that compares, and `=` for every other token
abbrev pub sign_of : Token → CompareSign
sign_of (token.Compare c) = c
sign_of _ = compare.Equal

-- the sign of a token that joins a sum, and `+` for every other token
abbrev pub sum_sign_of : Token → SumSign
sum_sign_of token.Minus = sum.Minus
sum_sign_of _ = sum.Plus

-- the sign of a token that joins a product, and `*` for every other token
abbrev pub product_sign_of : Token → ProductSign
product_sign_of token.Divide = product.Divide
product_sign_of token.Rest = product.Rest
product_sign_of _ = product.Times

-- ---- chains

-- a later part of a chain: the token before it, and its filter
abbrev pub Part : Type 0
Part = Token × FilterTree

-- later parts of an `or` or an `and`
abbrev pub trees_behind : List Part → FilterTrees
trees_behind [] = no_trees
trees_behind (p ∷ ps) = tree_then p.1 (trees_behind ps)

-- later parts of a sum
abbrev pub sums_behind : List Part → SumTrees
sums_behind [] = no_sums
sums_behind (p ∷ ps) = sum_then (sum_sign_of p.0) p.1 (sums_behind ps)

-- later parts of a product
abbrev pub products_behind : List Part → ProductTrees
products_behind [] = no_products
products_behind (p ∷ ps) = product_then (product_sign_of p.0) p.1 (products_behind ps)

-- the chain of this kind
abbrev pub joined : Kind → FilterTree → List Part → FilterTree
joined or_chain first ps = or_tree (tree_then first (trees_behind ps))
joined and_chain first ps = and_tree (tree_then first (trees_behind ps))
joined sum_chain first ps = sum_tree first (sums_behind ps)
joined product_chain first ps = product_tree first (products_behind ps)

-- a part by itself, or the chain of it and the later ones
abbrev pub chain_or_part : Kind → FilterTree → List Part → FilterTree
chain_or_part k first [] = first
chain_or_part k first (p ∷ ps) = joined k first (p ∷ ps)

-- parts that were read before stand in front
abbrev pub with_front : List Part → Step (List Part) → Step (List Part)
with_front front read = then_read read (λ later ts. got (front ++ later) ts)

-- later parts of a chain, at most so many
unfoldable pub turns : Kind → Reader FilterTree → ℕ → Reader (List Part)
turns k part zero ts = got [] ts
turns k part (suc n) ts =
    if starts (joins k) ts
    then then_read (part (drop 1 ts))
    (λ t us. with_front ((first_token ts, t) ∷ []) (turns k part n us))
    else got [] ts

-- all later parts of a chain: there are no more of them than tokens
unfoldable pub later : Kind → Reader FilterTree → Reader (List Part)
later k part ts = turns k part (length ts) ts

-- a first part with the later ones that were read behind it, or the fault of their reading
abbrev pub chain_after : Kind → FilterTree → Step (List Part) → Step FilterTree
chain_after k first read = then_read read (λ parts ts. got (chain_or_part k first parts) ts)

-- a part, and then each later part behind a sign that joins chains of this kind
unfoldable pub chain_of : Kind → Reader FilterTree → Reader FilterTree
chain_of k part ts = then_read (part ts) (λ t us. chain_after k t (later k part us))

-- ---- rows

-- what is read from a `not`, from a minus sign and from an opening parenthesis on
pub record Inner : Type 0 where
  pub not_from : Reader FilterTree
  pub minus_from : Reader FilterTree
  pub open_from : Reader FilterTree

-- what stands by itself: a value of one token, or what an opening parenthesis begins
unfoldable pub atom_in : Inner → Reader FilterTree
atom_in i ts =
    if starts is_leaf ts then got (leaf_tree (first_token ts)) (drop 1 ts)
    else (if starts is_out_of_range ts then failed (NumberRange (place ts)) ts
    else (if starts is_open_paren ts then i.open_from ts
    else failed (Bad (place ts)) ts))

-- a negative where a minus sign stands first, and else what stands by itself
unfoldable pub unary_in : Inner → Reader FilterTree
unary_in i ts = if starts is_minus ts then i.minus_from ts else atom_in i ts

-- a product, or one part that may be negative
unfoldable pub product_in : Inner → Reader FilterTree
product_in i = chain_of product_chain (unary_in i)

-- a sum, or one product alone
unfoldable pub sum_in : Inner → Reader FilterTree
sum_in i = chain_of sum_chain (product_in i)

-- a first sum compared with the next one, where a sign that compares follows, and else the first
-- sum alone
abbrev pub compare_rest : Inner → FilterTree → Reader FilterTree
compare_rest i a us =
    if starts is_compare us
    then then_read (sum_in i (drop 1 us))
    (λ b vs. got (compare_tree a (sign_of (first_token us)) b) vs)
    else got a us

-- a comparison of two sums, or one sum alone
unfoldable pub compare_in : Inner → Reader FilterTree
compare_in i ts = then_read (sum_in i ts) (compare_rest i)

-- the opposite of something where `not` stands first, and else a comparison
unfoldable pub not_in : Inner → Reader FilterTree
not_in i ts = if starts is_not ts then i.not_from ts else compare_in i ts

-- parts that `and` joins, or one part alone
unfoldable pub and_in : Inner → Reader FilterTree
and_in i = chain_of and_chain (not_in i)

-- parts that `or` joins, or one part alone: a whole filter
unfoldable pub or_in : Inner → Reader FilterTree
or_in i = chain_of or_chain (and_in i)

-- the fault at a token that would open one thing more than may be open at once
abbrev pub too_deep : Reader FilterTree
too_deep ts = failed (TooDeep (place ts)) ts

-- the opposite of what was read behind `not`
abbrev pub got_not : FilterTree → Reader FilterTree
got_not t us = got (not_tree t) us

-- the negative of what was read behind the minus sign
abbrev pub got_negative : FilterTree → Reader FilterTree
got_negative t us = got (negate_tree t) us

-- the parenthesis is closed, and leaves no node
abbrev pub close_read : FilterTree → Reader FilterTree
close_read t us = if starts is_close_paren us then got t (drop 1 us) else failed (Bad (place us)) us

-- what is read from a token that opens something on, where so many things may be open at once
unfoldable pub within_depth : ℕ → Inner
within_depth zero = record { not_from = too_deep; minus_from = too_deep; open_from = too_deep }
within_depth (suc n) = record {
  not_from = λ ts. then_read (not_in (within_depth n) (drop 1 ts)) got_not;
  minus_from = λ ts. then_read (unary_in (within_depth n) (drop 1 ts)) got_negative;
  open_from = λ ts. then_read (or_in (within_depth n) (drop 1 ts)) close_read;
}

-- the filter ends with the text
abbrev pub end_read : FilterTree → Reader FilterTree
end_read t us = if starts is_end us then got t us else failed (Bad (place us)) us

-- the reading of all tokens of a text
unfoldable pub whole_filter : Reader FilterTree
whole_filter ts = then_read (or_in (within_depth 64) ts) end_read
