-- A filter as a text again: its tokens with parentheses where they are needed, and a space between
-- two tokens.
use Rattle.std.specs.Prelude.{◌≡◌, ℕ, Bool, true, false, ◌==◌, ◌||◌, nat_lt, if◌then◌else◌, List, [], ◌∷◌, ◌++◌, codes, Result, Ok}
use Rattle.std.specs.Fmt.{signed_decimal}
use Rattle.plain_filters.specs.declared.CompareSign.TheVariants as «compare»
use Rattle.plain_filters.specs.declared.Expr.{Expr}
use Rattle.plain_filters.specs.Filters.{FilterTree, FilterTrees, SumTrees, ProductTrees, or_tree, and_tree, not_tree, compare_tree, sum_tree, product_tree, negate_tree, name_tree, text_tree, number_tree, truth_tree, null_tree, no_trees, tree_then, no_sums, sum_then, no_products, product_then, tree_of}
use Rattle.filter_expr.specs.declared.tokens.Token.{Token}
use Rattle.filter_expr.specs.declared.tokens.Token.TheVariants as token
use Rattle.filter_expr.specs.Spelled.{sum_token, product_token}
use Rattle.filter_expr.specs.declared.faults.FilterFault.{FilterFault}
use Rattle.filter_expr.specs.Filters.{FilterOf, MayAnswer, AnswersTree}

-- a text with a backslash before each single quote and each backslash
abbrev pub escaped_text : List ℕ → List ℕ
escaped_text [] = []
escaped_text (b ∷ bs) = if b == 39 || b == 92 then 92 ∷ b ∷ escaped_text bs else b ∷ escaped_text bs

-- how a token is written
abbrev pub spelling : Token → List ℕ
spelling (token.Name n) = 91 ∷ (n ++ 93 ∷ [])
spelling (token.Quoted t) = 39 ∷ (escaped_text t ++ 39 ∷ [])
spelling (token.Number z) = signed_decimal z
spelling token.OutOfRange = codes "9223372036854775808"
spelling token.True = codes "true"
spelling token.False = codes "false"
spelling token.Null = codes "null"
spelling token.And = codes "and"
spelling token.Or = codes "or"
spelling token.Not = codes "not"
spelling (token.Compare compare.Equal) = codes "="
spelling (token.Compare compare.Unequal) = codes "!="
spelling (token.Compare compare.Less) = codes "<"
spelling (token.Compare compare.LessEqual) = codes "<="
spelling (token.Compare compare.Greater) = codes ">"
spelling (token.Compare compare.GreaterEqual) = codes ">="
spelling token.Plus = codes "+"
spelling token.Minus = codes "-"
spelling token.Times = codes "*"
spelling token.Divide = codes "/"
spelling token.Rest = codes "%"
spelling token.Open = codes "("
spelling token.Close = codes ")"
spelling token.End = []
spelling token.Unknown = []

-- how strongly the outermost form of a filter binds: an `or` 0, an `and` 1, a `not` 2, a comparison
-- 3, a sum 4, a product 5, a negative 6, and 7 for what stands by itself
abbrev pub strength : FilterTree → ℕ
strength (or_tree ts) = 0
strength (and_tree ts) = 1
strength (not_tree t) = 2
strength (compare_tree s c t) = 3
strength (sum_tree t ts) = 4
strength (product_tree t ts) = 5
strength (negate_tree t) = 6
strength _ = 7

-- the tokens of a filter, in parentheses where it binds too weakly for its place
abbrev pub in_place : ℕ → FilterTree → List Token → List Token
in_place l t us = if nat_lt (strength t) l then token.Open ∷ (us ++ token.Close ∷ []) else us

-- the token of a truth value
abbrev pub truth_token : Bool → Token
truth_token true = token.True
truth_token false = token.False

-- the tokens of a filter, with parentheses only where they are needed
abbrev mutual
  pub tokens_in : FilterTree → List Token
  tokens_in (or_tree ts) = list_tokens token.Or 1 ts
  tokens_in (and_tree ts) = list_tokens token.And 2 ts
  tokens_in (not_tree t) = token.Not ∷ in_place 2 t (tokens_in t)
  tokens_in (compare_tree s c t) =
      in_place 4 s (tokens_in s) ++ token.Compare c ∷ in_place 4 t (tokens_in t)
  tokens_in (sum_tree t ts) = in_place 5 t (tokens_in t) ++ sum_tokens ts
  tokens_in (product_tree t ts) = in_place 6 t (tokens_in t) ++ product_tokens ts
  tokens_in (negate_tree t) = token.Minus ∷ in_place 6 t (tokens_in t)
  tokens_in (name_tree s) = token.Name s ∷ []
  tokens_in (text_tree s) = token.Quoted s ∷ []
  tokens_in (number_tree z) = token.Number z ∷ []
  tokens_in (truth_tree b) = truth_token b ∷ []
  tokens_in null_tree = token.Null ∷ []

  -- parts with this sign between each two; no part is written as an empty word, which is that of
  -- `End`
  pub list_tokens : Token → ℕ → FilterTrees → List Token
  list_tokens s l no_trees = token.End ∷ []
  list_tokens s l (tree_then t ts) = in_place l t (tokens_in t) ++ later_tokens s l ts

  -- later parts, each behind this sign
  pub later_tokens : Token → ℕ → FilterTrees → List Token
  later_tokens s l no_trees = []
  later_tokens s l (tree_then t ts) = s ∷ (in_place l t (tokens_in t) ++ later_tokens s l ts)

  -- the later parts of a sum, each behind its sign
  pub sum_tokens : SumTrees → List Token
  sum_tokens no_sums = []
  sum_tokens (sum_then c t ts) = sum_token c ∷ (in_place 5 t (tokens_in t) ++ sum_tokens ts)

  -- the later parts of a product, each behind its sign
  pub product_tokens : ProductTrees → List Token
  product_tokens no_products = []
  product_tokens (product_then c t ts) =
      product_token c ∷ (in_place 6 t (tokens_in t) ++ product_tokens ts)

-- a spelling behind what was written so far, and a space between the two
abbrev pub put_behind : List ℕ → List ℕ → List ℕ
put_behind [] word = word
put_behind (b ∷ bs) word = (b ∷ bs) ++ 32 ∷ word

-- the spellings of tokens, one after another, behind what was written so far
abbrev pub put_tokens : List ℕ → List Token → List ℕ
put_tokens out [] = out
put_tokens out (t ∷ ts) = put_tokens (put_behind out (spelling t)) ts

-- the text of a filter
abbrev pub filter_text : FilterTree → List ℕ
filter_text t = put_tokens [] (tokens_in t)

-- ---- laws

-- a filter that some text says is said by what is written of it
abbrev pub ReadsAgain : Type 0
ReadsAgain = (text : List ℕ) (t : FilterTree) → FilterOf text t → FilterOf (filter_text t) t

-- a filter that may be answered for some text is answered again for what is written of it, but for
-- want of memory
abbrev pub AnswersAgain : Type 0
AnswersAgain =
    (text : List ℕ) (e : Expr) → MayAnswer text (Ok e)
    → (r : Result Expr FilterFault) → MayAnswer (filter_text (tree_of e)) r
    → AnswersTree (tree_of e) r

-- two filters of texts that are written alike are one
abbrev pub IsKnownByText : Type 0
IsKnownByText =
    (a b : List ℕ) (s t : FilterTree)
    → FilterOf a s → FilterOf b t → filter_text s ≡ filter_text t → s ≡ t
