-- A chain while its parts are read: what its first parts and all that is read behind them come to.
use Rattle.std.proofs.Common.{◌≡◌, ℕ, ◌≤◌, List, [], ◌∷◌, ◌++◌, length, drop, map, Bool, true, false, Err, refl, sym, ◌∙◌, ap, arith, append-nil}
use Rattle.std.proofs.lemmas.List.{map-append}
use Rattle.plain_filters.specs.declared.Expr.{Expr}
use Rattle.plain_filters.specs.Filters.{FilterTree, tree_then, tree_of, trees_of}
use Rattle.filter_expr.specs.declared.tokens.PlacedToken.{PlacedToken}
use Rattle.filter_expr.specs.declared.faults.FilterFault.{FilterFault}
use Rattle.filter_expr.specs.declared.faults.FilterFault.TheVariants.{NoMemory}
use Rattle.filter_expr.specs.declared.parser.Connective.{Connective}
use Rattle.filter_expr.specs.declared.parser.Connective.TheVariants as connective
use Rattle.filter_expr.specs.declared.tokens.Token.{Token}
use Rattle.filter_expr.specs.declared.tokens.Token.TheVariants as token
use Rattle.filter_expr.specs.Signs.{Kind, joins, is_or, is_and}
use Rattle.filter_expr.specs.Reading.{Part, trees_behind, Step, got, failed, Reader, Inner, starts, first_token, with_front, later, chain_or_part, chain_after, chain_of, or_in, and_in, within_depth}
use Rattle.filter_expr.specs.inner.Connectives.{connective_kind, connective_token, connected, chain_kind, chain_in, part_in}
use Rattle.filter_expr.specs.inner.Gives.{Gives}
use Rattle.filter_expr.specs.inner.Kinds.{is_of}
use Rattle.filter_expr.proofs.Chains.{wrong, Shortens, later-stop, loop_goes, loop_fails, chain_reads}
use Rattle.filter_expr.proofs.Local.{shortens, within_local, and_local, not_local}
use Rattle.filter_expr.proofs.Loops.{fails_so, first_fails}

-- the same token before each part
abbrev pub behind : Token → List FilterTree → List Part
behind s ts = map (λ t. (s, t)) ts

-- the first of these parts with the others and then what is read behind them
abbrev pub resumed : Kind → Token → List FilterTree → Step (List Part) → Step FilterTree
resumed k t [] r = failed NoMemory []
resumed k t (e ∷ es) r = chain_after k e (with_front (behind t es) r)

pub chain_is : (c : Connective) (i : Inner) → chain_in c i ≡ chain_of (chain_kind c) (part_in c i)
unfolding or_in and_in
chain_is connective.Or i = refl
chain_is connective.And i = refl

part_shortens : (c : Connective) (n : ℕ) → Shortens (part_in c (within_depth n))
part_shortens connective.Or n = shortens (and_local (within_depth n) (within_local n))
part_shortens connective.And n = shortens (not_local (within_depth n) (within_local n))

connects : (c : Connective) (ts : List PlacedToken) (b : Bool) → b ≡ starts (is_of (connective_kind c)) ts → starts (joins (chain_kind c)) ts ≡ b
connects connective.Or ts b h = sym h
connects connective.And ts b h = sym h

or_first : (t : Token) → is_or t ≡ true → t ≡ token.Or
or_first token.Or e = refl
or_first _ e = absurd (wrong e)

and_first : (t : Token) → is_and t ≡ true → t ≡ token.And
and_first token.And e = refl
and_first _ e = absurd (wrong e)

first_connects : (c : Connective) (ts : List PlacedToken) → true ≡ starts (is_of (connective_kind c)) ts → first_token ts ≡ connective_token c
first_connects connective.Or [] h = absurd (wrong (sym h))
first_connects connective.Or (s ∷ ts) h = or_first s.token (sym h)
first_connects connective.And [] h = absurd (wrong (sym h))
first_connects connective.And (s ∷ ts) h = and_first s.token (sym h)

trees_same : (s : Token) (es : List Expr) → trees_behind (behind s (map tree_of es)) ≡ trees_of (map tree_of es)
trees_same s [] = refl
trees_same s (e ∷ es) = ap (tree_then (tree_of e)) (trees_same s es)

made : (c : Connective) (d e : Expr) (es : List Expr) →
    chain_or_part (chain_kind c) (tree_of d) (behind (connective_token c) (map tree_of (e ∷ es))) ≡ connected c (trees_of (map tree_of (d ∷ (e ∷ es))))
made connective.Or d e es = ap (λ l. connected connective.Or (tree_then (tree_of d) l)) (trees_same token.Or (e ∷ es))
made connective.And d e es = ap (λ l. connected connective.And (tree_then (tree_of d) l)) (trees_same token.And (e ∷ es))

module _ (c : Connective) (n : ℕ) where
  abbrev part : Reader FilterTree
  part = part_in c (within_depth n)

  abbrev rest : List PlacedToken → Step (List Part)
  rest ts = later (chain_kind c) (part_in c (within_depth n)) ts

  abbrev so_far : List FilterTree → List PlacedToken → Step FilterTree
  so_far es ts = resumed (chain_kind c) (connective_token c) es (rest ts)

  -- the first part goes wrong
  pub no_first : {X : Type 0} (view : X → FilterTree) (ts us : List PlacedToken) (f : FilterFault) → Gives view (Err f) us (part ts) → Gives view (Err f) us (chain_in c (within_depth n) ts)
  no_first view ts us f h = rw (chain_is c (within_depth n)) (first_fails view (chain_kind c) part (part_shortens c n) ts us f h)

  -- the first part is all
  pub first_alone : (ts us : List PlacedToken) (e : FilterTree) → part ts ≡ got e us → false ≡ starts (is_of (connective_kind c)) us → chain_in c (within_depth n) ts ≡ got e us
  first_alone ts us e first stop =
      ap (λ r. r ts) (chain_is c (within_depth n)) ∙ chain_reads (chain_kind c) part ts us e (got [] us) first (later-stop (chain_kind c) part us (connects c us false stop))

  -- the first part is read
  pub first_read : (ts us : List PlacedToken) (e : FilterTree) → part ts ≡ got e us → so_far (e ∷ []) us ≡ chain_in c (within_depth n) ts
  first_read ts us e first = alone (rest us) ∙ sym (ap (λ r. r ts) (chain_is c (within_depth n)) ∙ chain_reads (chain_kind c) part ts us e (rest us) first refl)
    where
      alone : (r : Step (List Part)) → resumed (chain_kind c) (connective_token c) (e ∷ []) r ≡ chain_after (chain_kind c) e r
      alone (got ps vs) = refl
      alone (failed f vs) = refl

  module _ (all : Step FilterTree) (xs : List Expr) (some : 1 ≤ length xs) (ts : List PlacedToken) (read : so_far (map tree_of xs) ts ≡ all) where
    -- one more part is read
    pub one_more : true ≡ starts (is_of (connective_kind c)) ts → (x : Expr) (us : List PlacedToken) → part (drop 1 ts) ≡ got (tree_of x) us → so_far (map tree_of (xs ++ x ∷ [])) us ≡ all
    one_more next x us here = by xs some read
      where
        by : (ds : List Expr) → 1 ≤ length ds → so_far (map tree_of ds) ts ≡ all → so_far (map tree_of (ds ++ x ∷ [])) us ≡ all
        by [] h r = absurd (omega (arith, h))
        by (d ∷ ds) h r =
            ap (λ es. chain_after (chain_kind c) (tree_of d) (with_front (behind (connective_token c) es) (rest us))) (map-append tree_of ds (x ∷ []))
            ∙ ap (λ ps. chain_after (chain_kind c) (tree_of d) (with_front ps (rest us))) (map-append (λ e. (connective_token c, e)) (map tree_of ds) (tree_of x ∷ []))
            ∙ ap (chain_after (chain_kind c) (tree_of d))
            (loop_goes (chain_kind c) part (part_shortens c n) (behind (connective_token c) (map tree_of ds)) ts (with_front (behind (connective_token c) (map tree_of ds)) (rest ts)) refl
            (connective_token c) (tree_of x) us (connects c ts true next) (first_connects c ts next) here)
            ∙ r

    -- one more part goes wrong
    pub no_more : {X : Type 0} (view : X → FilterTree) → true ≡ starts (is_of (connective_kind c)) ts → (f : FilterFault) (us : List PlacedToken) → Gives view (Err f) us (part (drop 1 ts)) →
        Gives view (Err f) us all
    no_more view next f us here = fails_so view f us (part (drop 1 ts)) all (λ g e. by xs some read g e) here
      where
        by : (ds : List Expr) → 1 ≤ length ds → so_far (map tree_of ds) ts ≡ all → (g : FilterFault) → part (drop 1 ts) ≡ failed g us → all ≡ failed g us
        by [] h r g e = absurd (omega (arith, h))
        by (d ∷ ds) h r g e =
            sym r
            ∙ ap (chain_after (chain_kind c) (tree_of d))
            (loop_fails (chain_kind c) part (part_shortens c n) (behind (connective_token c) (map tree_of ds)) ts (with_front (behind (connective_token c) (map tree_of ds)) (rest ts)) refl g us
            (connects c ts true next) e)

    -- no more parts follow
    pub all_read : 2 ≤ length xs → false ≡ starts (is_of (connective_kind c)) ts → all ≡ got (connected c (trees_of (map tree_of xs))) ts
    all_read many stop = by xs many read
      where
        by : (ds : List Expr) → 2 ≤ length ds → so_far (map tree_of ds) ts ≡ all → all ≡ got (connected c (trees_of (map tree_of ds))) ts
        by [] h r = absurd (omega (arith, h))
        by (d ∷ []) h r = absurd (omega (arith, h))
        by (d ∷ (e ∷ ds)) h r =
            sym r ∙ ap (λ q. chain_after (chain_kind c) (tree_of d) (with_front (behind (connective_token c) (map tree_of (e ∷ ds))) q)) (later-stop (chain_kind c) part ts (connects c ts false stop))
            ∙ ap (λ ps. chain_after (chain_kind c) (tree_of d) (got ps ts)) (append-nil (behind (connective_token c) (map tree_of (e ∷ ds))))
            ∙ ap (λ t. got t ts) (made c d e ds)
