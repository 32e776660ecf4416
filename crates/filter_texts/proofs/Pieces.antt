-- The text of each form of a filter, by the texts of its parts.
use Rattle.std.proofs.Common.{◌≡◌, ℕ, ◌+◌, ◌<◌, ◌≤◌, Bool, if◌then◌else◌, ℤ, List, [], ◌∷◌, ◌++◌, length, get_or, drop, map, refl, ap, ◌∙◌, append_assoc}
use Rattle.std.proofs.lemmas.Bool.{lt-ltb, le-ltb}
use Rattle.std.specs.declared.boxed.Box.{Box}
use Rattle.std.specs.declared.vec.Vec.{Vec}
use Rattle.std.specs.declared.alloc.Global.{Global}
use Rattle.plain_filters.specs.declared.Expr.{Expr}
use Rattle.plain_filters.specs.declared.Expr.TheVariants as node
use Rattle.plain_filters.specs.declared.SumPart.{SumPart}
use Rattle.plain_filters.specs.declared.ProductPart.{ProductPart}
use Rattle.plain_filters.specs.declared.CompareSign.{CompareSign}
use Rattle.filter_expr.specs.declared.tokens.Token.{Token}
use Rattle.filter_expr.specs.declared.tokens.Token.TheVariants as token
use Rattle.plain_filters.specs.Filters.{FilterTree, tree_of, trees_of, sums_of, products_of}
use Rattle.filter_expr.specs.Reading.{Part}
use Rattle.filter_expr.specs.inner.Parts.{tree_of_sum, tree_of_product, read_sum, read_product}
use Rattle.filter_expr.proofs.Nodes.{tree-Or, tree-And, tree-Not, tree-Compare, tree-Sum, tree-Product, tree-Negate, tree-Name, tree-Text, tree-Number, tree-Truth, tree-Null}
use Rattle.filter_expr.proofs.Turns.{left_here}
use Rattle.filter_texts.specs.Written.{spelling, strength, in_place, truth_token, tokens_in, later_tokens, list_tokens, sum_tokens, product_tokens, put_behind, put_tokens}
use Rattle.filter_texts.specs.inner.Pieces.{put_form, put_tree, put_parts, put_list, put_terms}

put_both : (out : List ℕ) (ts us : List Token) → put_tokens out (ts ++ us) ≡ put_tokens (put_tokens out ts) us
put_both out [] us = refl
put_both out (t ∷ ts) us = put_both (put_behind out (spelling t)) ts us

-- what follows a byte that was put behind
pub behind_more : (out : List ℕ) (b : ℕ) (more end : List ℕ) → (put_behind out (b ∷ []) ++ more) ++ end ≡ put_behind out (b ∷ (more ++ end))
behind_more [] b more end = refl
behind_more (a ∷ out) b more end = append_assoc ((a ∷ out) ++ 32 ∷ b ∷ []) more end ∙ append_assoc (a ∷ out) (32 ∷ b ∷ []) (more ++ end)

-- ---- later parts

parts_put : (s : Token) (l : ℕ) (ts : List FilterTree) (out : List ℕ) → put_tokens out (later_tokens s l (trees_of ts)) ≡ put_parts (spelling s) l ts out
parts_put s l [] out = refl
parts_put s l (t ∷ ts) out =
    put_both (put_behind out (spelling s)) (in_place l t (tokens_in t)) (later_tokens s l (trees_of ts)) ∙ parts_put s l ts (put_tree l t (put_behind out (spelling s)))

list_put : (s : Token) (l : ℕ) (ts : List FilterTree) (out : List ℕ) → put_tokens out (list_tokens s l (trees_of ts)) ≡ put_list (spelling s) l ts out
list_put s l [] out = refl
list_put s l (t ∷ ts) out = put_both out (in_place l t (tokens_in t)) (later_tokens s l (trees_of ts)) ∙ parts_put s l ts (put_tree l t out)

sums_put : (ps : List SumPart) (out : List ℕ) → put_tokens out (sum_tokens (sums_of (map tree_of_sum ps))) ≡ put_terms 5 (map read_sum ps) out
sums_put [] out = refl
sums_put (p ∷ ps) out =
    put_both (put_behind out (spelling (read_sum p).0)) (in_place 5 (read_sum p).1 (tokens_in (read_sum p).1)) (sum_tokens (sums_of (map tree_of_sum ps)))
    ∙ sums_put ps (put_tree 5 (read_sum p).1 (put_behind out (spelling (read_sum p).0)))

products_put : (ps : List ProductPart) (out : List ℕ) → put_tokens out (product_tokens (products_of (map tree_of_product ps))) ≡ put_terms 6 (map read_product ps) out
products_put [] out = refl
products_put (p ∷ ps) out =
    put_both (put_behind out (spelling (read_product p).0)) (in_place 6 (read_product p).1 (tokens_in (read_product p).1)) (product_tokens (products_of (map tree_of_product ps)))
    ∙ products_put ps (put_tree 6 (read_product p).1 (put_behind out (spelling (read_product p).0)))

-- ---- forms

pub form-Or : (out : List ℕ) (v : Vec Expr Global) → put_form (tree_of (node.Or v)) out ≡ put_list (spelling token.Or) 1 (map tree_of v.items) out
form-Or out v = ap (λ t. put_form t out) (tree-Or v) ∙ list_put token.Or 1 (map tree_of v.items) out

pub form-And : (out : List ℕ) (v : Vec Expr Global) → put_form (tree_of (node.And v)) out ≡ put_list (spelling token.And) 2 (map tree_of v.items) out
form-And out v = ap (λ t. put_form t out) (tree-And v) ∙ list_put token.And 2 (map tree_of v.items) out

pub form-Compare : (out : List ℕ) (a : Box Expr Global) (s : CompareSign) (b : Box Expr Global)
    → put_form (tree_of (node.Compare a s b)) out ≡ put_tree 4 (tree_of b.value) (put_behind (put_tree 4 (tree_of a.value) out) (spelling (token.Compare s)))
form-Compare out a s b =
    ap (λ t. put_form t out) (tree-Compare a s b)
    ∙ put_both out (in_place 4 (tree_of a.value) (tokens_in (tree_of a.value))) (token.Compare s ∷ in_place 4 (tree_of b.value) (tokens_in (tree_of b.value)))

pub form-Sum : (out : List ℕ) (b : Box Expr Global) (v : Vec SumPart Global) → put_form (tree_of (node.Sum b v)) out ≡ put_terms 5 (map read_sum v.items) (put_tree 5 (tree_of b.value) out)
form-Sum out b v =
    ap (λ t. put_form t out) (tree-Sum b v) ∙ put_both out (in_place 5 (tree_of b.value) (tokens_in (tree_of b.value))) (sum_tokens (sums_of (map tree_of_sum v.items)))
    ∙ sums_put v.items (put_tree 5 (tree_of b.value) out)

pub form-Product : (out : List ℕ) (b : Box Expr Global) (v : Vec ProductPart Global) → put_form (tree_of (node.Product b v)) out ≡ put_terms 6 (map read_product v.items) (put_tree 6 (tree_of b.value) out)
form-Product out b v =
    ap (λ t. put_form t out) (tree-Product b v) ∙ put_both out (in_place 6 (tree_of b.value) (tokens_in (tree_of b.value))) (product_tokens (products_of (map tree_of_product v.items)))
    ∙ products_put v.items (put_tree 6 (tree_of b.value) out)

pub form-Not : (out : List ℕ) (b : Box Expr Global) → put_form (tree_of (node.Not b)) out ≡ put_tree 2 (tree_of b.value) (put_behind out (spelling token.Not))
form-Not out b = ap (λ x. put_form x out) (tree-Not b)

pub form-Negate : (out : List ℕ) (b : Box Expr Global) → put_form (tree_of (node.Negate b)) out ≡ put_tree 6 (tree_of b.value) (put_behind out (spelling token.Minus))
form-Negate out b = ap (λ x. put_form x out) (tree-Negate b)

pub form-Name : (out : List ℕ) (n : List ℕ) → put_form (tree_of (node.Name n)) out ≡ put_behind out (spelling (token.Name n))
form-Name out n = ap (λ x. put_form x out) (tree-Name n)

pub form-Text : (out : List ℕ) (t : List ℕ) → put_form (tree_of (node.Text t)) out ≡ put_behind out (spelling (token.Quoted t))
form-Text out t = ap (λ x. put_form x out) (tree-Text t)

pub form-Number : (out : List ℕ) (z : ℤ) → put_form (tree_of (node.Number z)) out ≡ put_behind out (spelling (token.Number z))
form-Number out z = ap (λ x. put_form x out) (tree-Number z)

pub form-Truth : (out : List ℕ) (b : Bool) → put_form (tree_of (node.Truth b)) out ≡ put_behind out (spelling (truth_token b))
form-Truth out b = ap (λ x. put_form x out) (tree-Truth b)

pub form-Null : (out : List ℕ) → put_form (tree_of node.Null) out ≡ put_behind out (spelling token.Null)
form-Null out = ap (λ t. put_form t out) tree-Null

pub ruleset forms = (form-Or, form-And, form-Not, form-Compare, form-Sum, form-Product, form-Negate, form-Name, form-Text, form-Number, form-Truth, form-Null)

-- ---- parentheses

pub put_bare : (l : ℕ) (t : FilterTree) (out : List ℕ) → l ≤ strength t → put_tree l t out ≡ put_form t out
put_bare l t out h = ap (λ b. put_tokens out (if b then token.Open ∷ (tokens_in t ++ token.Close ∷ []) else tokens_in t)) (le-ltb (strength t) l h)

pub put_guarded : (l : ℕ) (t : FilterTree) (out : List ℕ) → strength t < l → put_tree l t out ≡ put_behind (put_form t (put_behind out (spelling token.Open))) (spelling token.Close)
put_guarded l t out h =
    ap (λ b. put_tokens out (if b then token.Open ∷ (tokens_in t ++ token.Close ∷ []) else tokens_in t)) (lt-ltb (strength t) l h)
    ∙ put_both (put_behind out (spelling token.Open)) (tokens_in t) (token.Close ∷ [])

-- ---- one turn of each loop

module _ {A : Type 0} (l : ℕ) (xs : List A) (i : ℕ) (x : A) (h : i < length xs) (e : x ≡ get_or xs i x) where
  pub term_here : (f : A → Part) (out : List ℕ) → put_terms l (map f (drop i xs)) out ≡ put_terms l (map f (drop (i + 1) xs)) (put_tree l (f x).1 (put_behind out (spelling (f x).0)))
  term_here f out = ap (λ ys. put_terms l (map f ys) out) (left_here xs i x h e)

  pub part_here : (f : A → FilterTree) (word out : List ℕ) → put_parts word l (map f (drop i xs)) out ≡ put_parts word l (map f (drop (i + 1) xs)) (put_tree l (f x) (put_behind out word))
  part_here f word out = ap (λ ys. put_parts word l (map f ys) out) (left_here xs i x h e)

pub list_begins : {A : Type 0} (word : List ℕ) (l : ℕ) (f : A → FilterTree) (xs : List A) (x : A) (out : List ℕ) → 0 < length xs → x ≡ get_or xs 0 x
    → put_list word l (map f xs) out ≡ put_parts word l (map f (drop 1 xs)) (put_tree l (f x) out)
list_begins word l f xs x out h e = ap (λ ys. put_list word l (map f ys) out) (left_here xs 0 x h e)

-- ---- strengths

pub strength-Or : (v : Vec Expr Global) → strength (tree_of (node.Or v)) ≡ 0
strength-Or v = ap strength (tree-Or v)

pub strength-And : (v : Vec Expr Global) → strength (tree_of (node.And v)) ≡ 1
strength-And v = ap strength (tree-And v)

pub strength-Not : (b : Box Expr Global) → strength (tree_of (node.Not b)) ≡ 2
strength-Not b = ap strength (tree-Not b)

pub strength-Compare : (a : Box Expr Global) (s : CompareSign) (b : Box Expr Global) → strength (tree_of (node.Compare a s b)) ≡ 3
strength-Compare a s b = ap strength (tree-Compare a s b)

pub strength-Sum : (b : Box Expr Global) (v : Vec SumPart Global) → strength (tree_of (node.Sum b v)) ≡ 4
strength-Sum b v = ap strength (tree-Sum b v)

pub strength-Product : (b : Box Expr Global) (v : Vec ProductPart Global) → strength (tree_of (node.Product b v)) ≡ 5
strength-Product b v = ap strength (tree-Product b v)

pub strength-Negate : (b : Box Expr Global) → strength (tree_of (node.Negate b)) ≡ 6
strength-Negate b = ap strength (tree-Negate b)

pub strength-Name : (n : List ℕ) → strength (tree_of (node.Name n)) ≡ 7
strength-Name n = ap strength (tree-Name n)

pub strength-Text : (t : List ℕ) → strength (tree_of (node.Text t)) ≡ 7
strength-Text t = ap strength (tree-Text t)

pub strength-Number : (z : ℤ) → strength (tree_of (node.Number z)) ≡ 7
strength-Number z = ap strength (tree-Number z)

pub strength-Truth : (b : Bool) → strength (tree_of (node.Truth b)) ≡ 7
strength-Truth b = ap strength (tree-Truth b)

pub strength-Null : strength (tree_of node.Null) ≡ 7
strength-Null = ap strength tree-Null

pub ruleset strengths = (strength-Or, strength-And, strength-Not, strength-Compare, strength-Sum, strength-Product, strength-Negate, strength-Name, strength-Text, strength-Number, strength-Truth, strength-Null)
