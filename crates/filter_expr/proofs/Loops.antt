-- What the loop over the later parts of a chain answers, at each of its ends.
use Rattle.std.proofs.Common.{◌≡◌, ◌≤◌, sym, ◌∙◌, ap, List, [], ◌∷◌, ◌++◌, length, drop, map, Bool, true, false, not, Option, Some, None, Err, if◌then◌else◌, option_map, is_some, refl, arith}
use Rattle.filter_expr.specs.declared.tokens.PlacedToken.{PlacedToken}
use Rattle.filter_expr.specs.declared.tokens.Token.{Token}
use Rattle.filter_expr.specs.declared.faults.FilterFault.{FilterFault}
use Rattle.filter_expr.specs.declared.faults.FilterFault.TheVariants.{Bad, NumberRange, TooDeep, NoMemory}
use Rattle.plain_filters.specs.declared.SumPart.{SumPart}
use Rattle.plain_filters.specs.declared.ProductPart.{ProductPart}
use Rattle.plain_filters.specs.Filters.{FilterTree, sum_tree, product_tree, sum_then, product_then, sums_of, products_of}
use Rattle.filter_expr.specs.Signs.{Kind, joins, sum_chain, product_chain}
use Rattle.filter_expr.specs.inner.Parts.{tree_of_sum, tree_of_product, read_sum, read_product}
use Rattle.filter_expr.specs.inner.Gives.{Gives}
use Rattle.filter_expr.specs.inner.Kinds.{next_sign}
use Rattle.filter_expr.specs.Reading.{Part, Step, got, failed, Reader, starts, first_token, sums_behind, products_behind, with_front, later, chain_or_part, chain_of}
use Rattle.filter_expr.proofs.Forms.{sum_is, product_is}
use Rattle.filter_expr.proofs.Chains.{wrong, Shortens, loop_fails, loop_ends, chain_fails, chain_reads}

some_same : (t u : Token) → Some t ≡ Some u → t ≡ u
some_same t u e = cc

-- a sign stands next: which one, and that it joins
pub sign_joins : (k : Kind) (ts : List PlacedToken) (t : Token) → Some t ≡ next_sign k ts → starts (joins k) ts ≡ true
sign_joins k [] t h = absurd (cc)
sign_joins k (s ∷ ts) t h = by (joins k s.token) h
  where
    by : (b : Bool) → Some t ≡ (if b then Some s.token else None) → b ≡ true
    by true e = refl
    by false e = absurd (cc)

pub sign_is : (k : Kind) (ts : List PlacedToken) (t : Token) → Some t ≡ next_sign k ts → first_token ts ≡ t
sign_is k [] t h = absurd (cc)
sign_is k (s ∷ ts) t h = by (joins k s.token) h
  where
    by : (b : Bool) → Some t ≡ (if b then Some s.token else None) → s.token ≡ t
    by true e = some_same s.token t (sym e)
    by false e = absurd (cc)

pub no_sign : (k : Kind) (ts : List PlacedToken) → None ≡ next_sign k ts → starts (joins k) ts ≡ false
no_sign k [] h = refl
no_sign k (s ∷ ts) h = by (joins k s.token) h
  where
    by : (b : Bool) → None ≡ (if b then Some s.token else None) → b ≡ false
    by true e = absurd (cc)
    by false e = refl

-- what fails as this does answers as this does
pub fails_so : {A X : Type 0} (view : X → A) (f : FilterFault) (us : List PlacedToken) (r q : Step A) → ((g : FilterFault) → r ≡ failed g us → q ≡ failed g us) → Gives view (Err f) us r → Gives view (Err f) us q
fails_so view (Bad o) us r q same h = same (Bad o) h
fails_so view (NumberRange o) us r q same h = same (NumberRange o) h
fails_so view (TooDeep o) us r q same h = same (TooDeep o) h
fails_so view NoMemory us r q same h = tt

module _ {X : Type 0} (view : X → FilterTree) (k : Kind) (part : Reader FilterTree) (short : Shortens part) where
  -- the first part goes wrong
  pub first_fails : (ts us : List PlacedToken) (f : FilterFault) → Gives view (Err f) us (part ts) → Gives view (Err f) us (chain_of k part ts)
  first_fails ts us f h = fails_so view f us (part ts) (chain_of k part ts) (λ g e. chain_fails k part ts us g e) h

  module _ (all after : List PlacedToken) (t : FilterTree) (first : part all ≡ got t after) (front : List Part) (ts : List PlacedToken)
      (read : with_front front (later k part ts) ≡ later k part after) where
    -- a later part goes wrong
    pub part_fails : starts (joins k) ts ≡ true → (f : FilterFault) (us : List PlacedToken) → Gives view (Err f) us (part (drop 1 ts)) → Gives view (Err f) us (chain_of k part all)
    part_fails next f us h =
        fails_so view f us (part (drop 1 ts)) (chain_of k part all)
        (λ g e. chain_reads k part all after t (failed g us) first (loop_fails k part short front ts (later k part after) read g us next e)) h

    -- no part is left
    pub chain_ends : starts (joins k) ts ≡ false → chain_of k part all ≡ got (chain_or_part k t front) ts
    chain_ends stop = chain_reads k part all after t (got front ts) first (loop_ends k part short front ts (later k part after) read stop)

-- ---- the chain of the parts that were read

sums_same : (ps : List SumPart) → sums_behind (map read_sum ps) ≡ sums_of (map tree_of_sum ps)
sums_same [] = refl
sums_same (p ∷ ps) =
    ap (λ c. sum_then c (tree_of_sum p).1 (sums_behind (map read_sum ps))) (sum_is (tree_of_sum p).0).2 ∙ ap (sum_then (tree_of_sum p).0 (tree_of_sum p).1) (sums_same ps)

products_same : (ps : List ProductPart) → products_behind (map read_product ps) ≡ products_of (map tree_of_product ps)
products_same [] = refl
products_same (p ∷ ps) =
    ap (λ c. product_then c (tree_of_product p).1 (products_behind (map read_product ps))) (product_is (tree_of_product p).0).2
    ∙ ap (product_then (tree_of_product p).0 (tree_of_product p).1) (products_same ps)

pub sum_made : (t : FilterTree) (ps : List SumPart) → (length ps ≡ 0 → ⊥) → chain_or_part sum_chain t (map read_sum ps) ≡ sum_tree t (sums_of (map tree_of_sum ps))
sum_made t [] h = absurd (h refl)
sum_made t (p ∷ ps) h = ap (sum_tree t) (sums_same (p ∷ ps))

pub product_made : (t : FilterTree) (ps : List ProductPart) → (length ps ≡ 0 → ⊥) → chain_or_part product_chain t (map read_product ps) ≡ product_tree t (products_of (map tree_of_product ps))
product_made t [] h = absurd (h refl)
product_made t (p ∷ ps) h = ap (product_tree t) (products_same (p ∷ ps))

-- no sign was found
pub none_found : {S : Type 0} (f : S → Token) (o : Option S) (n : Option Token) (b : Bool) → option_map f o ≡ n → is_some o ≡ not b → b ≡ true → None ≡ n
none_found f None n b e h t = e
none_found f (Some s) n b e h t = absurd (wrong (sym (h ∙ ap not t)))

-- ---- a list that one item is put behind

pub grown : {A : Type 0} (xs : List A) (x : A) → 1 ≤ length (xs ++ x ∷ [])
grown [] x = omega arith
grown (y ∷ ys) x = omega arith

pub grown_more : {A : Type 0} (xs : List A) (x : A) → 1 ≤ length xs → 2 ≤ length (xs ++ x ∷ [])
grown_more [] x h = absurd (omega (arith, h))
grown_more (y ∷ ys) x h = omega (arith, grown ys x)
