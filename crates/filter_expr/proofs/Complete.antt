-- What tokens spell is read as that filter, or a limit is passed by that very filter.
use Rattle.std.proofs.Common.{◌≡◌, ℕ, zero, suc, ◌+◌, ◌≤◌, ◌<◌, ◌-◌, Bool, true, false, if◌then◌else◌, List, [], ◌∷◌, ◌++◌, drop, refl, sym, ap, ◌∙◌, subst, arith, append_assoc}
use Rattle.plain_filters.specs.declared.CompareSign.{CompareSign}
use Rattle.plain_filters.specs.declared.SumSign.{SumSign}
use Rattle.plain_filters.specs.declared.SumSign.TheVariants as sum
use Rattle.plain_filters.specs.declared.ProductSign.{ProductSign}
use Rattle.plain_filters.specs.declared.ProductSign.TheVariants as product
use Rattle.plain_filters.specs.Filters.{FilterTree, FilterTrees, SumTrees, ProductTrees, or_tree, and_tree, not_tree, compare_tree, sum_tree, product_tree, negate_tree, tree_then, sum_then, product_then}
use Rattle.filter_expr.specs.declared.tokens.Token.{Token}
use Rattle.filter_expr.specs.declared.tokens.Token.TheVariants as token
use Rattle.filter_expr.specs.declared.tokens.PlacedToken.{PlacedToken}
use Rattle.filter_expr.specs.declared.faults.FilterFault.TheVariants.{Bad, NumberRange, TooDeep, NoMemory}
use Rattle.filter_expr.specs.Signs.{Kind, or_chain, and_chain, sum_chain, product_chain, joins, is_leaf, is_out_of_range, is_open_paren, is_minus, is_not, is_compare, is_close_paren}
use Rattle.filter_expr.specs.Spelled.{Spelled, Parts, Sums, Products, or_form, and_form, not_form, compare_form, sum_form, product_form, negate_form, parens_form, name_form, text_form, number_form, out_of_range_form, true_form, false_form, null_form, parts_end, parts_then, sums_end, sums_then, products_end, products_then, sum_token, product_token}
use Rattle.filter_expr.specs.Filters.{tokens}
use Rattle.filter_expr.specs.Reading.{Part, Step, got, failed, Reader, then_read, starts, first_token, leaf_tree, sign_of, trees_behind, sums_behind, products_behind, with_front, later, chain_or_part, chain_after, chain_of, Inner, or_in, and_in, not_in, compare_in, sum_in, product_in, unary_in, atom_in, within_depth, compare_rest, got_not, got_negative, close_read}
use Rattle.filter_expr.proofs.Chains.{Shortens, later-stop, later-more}
use Rattle.filter_expr.proofs.Local.{shortens, within_local, and_local, not_local, product_local, unary_local}
use Rattle.filter_expr.proofs.Forms.{kind_strength, head_same, tail_same, sum_is, product_is, Begun, begun}

-- ---- the first of some tokens, by the tokens without their places

pub starts_is : (test : Token → Bool) (ts : List PlacedToken) (u : Token) (us : List Token) → tokens ts ≡ u ∷ us → starts test ts ≡ test u
starts_is test [] u us e = absurd (cc)
starts_is test (s ∷ ts) u us e = ap test (head_same s.token u (tokens ts) us e)

first_is : (ts : List PlacedToken) (u : Token) (us : List Token) → tokens ts ≡ u ∷ us → first_token ts ≡ u
first_is [] u us e = absurd (cc)
first_is (s ∷ ts) u us e = head_same s.token u (tokens ts) us e

drop_is : (ts : List PlacedToken) (u : Token) (us : List Token) → tokens ts ≡ u ∷ us → tokens (drop 1 ts) ≡ us
drop_is [] u us e = absurd (cc)
drop_is (s ∷ ts) u us e = tail_same s.token u (tokens ts) us e

-- ---- what may follow

-- one more than the strength of a sign between two parts, and 0 for every other token
abbrev tight : Token → ℕ
tight token.Or = 1
tight token.And = 2
tight (token.Compare c) = 4
tight token.Plus = 5
tight token.Minus = 5
tight token.Times = 6
tight token.Divide = 6
tight token.Rest = 6
tight _ = 0

-- nothing goes on with what is spelled at a place of this strength
abbrev pub Stops : ℕ → List Token → Type 0
Stops l [] = Unit {0}
Stops l (u ∷ us) = tight u ≤ l

stops_up : (l m : ℕ) (rest : List Token) → l ≤ m → Stops l rest → Stops m rest
stops_up l m [] h s = tt
stops_up l m (u ∷ us) h s = omega (arith, h, s)

joins_not : (k : Kind) (u : Token) → tight u ≤ kind_strength k → joins k u ≡ false
joins_not or_chain token.Or h = absurd (omega (arith, h))
joins_not or_chain _ h = refl
joins_not and_chain token.And h = absurd (omega (arith, h))
joins_not and_chain _ h = refl
joins_not sum_chain token.Plus h = absurd (omega (arith, h))
joins_not sum_chain token.Minus h = absurd (omega (arith, h))
joins_not sum_chain _ h = refl
joins_not product_chain token.Times h = absurd (omega (arith, h))
joins_not product_chain token.Divide h = absurd (omega (arith, h))
joins_not product_chain token.Rest h = absurd (omega (arith, h))
joins_not product_chain _ h = refl

compares_not : (u : Token) → tight u ≤ 3 → is_compare u ≡ false
compares_not (token.Compare c) h = absurd (omega (arith, h))
compares_not _ h = refl

-- a test that no token passes with which what was read could go on
stops_at : (test : Token → Bool) (l m : ℕ) → ((u : Token) → tight u ≤ m → test u ≡ false) → l ≤ m → (rest : List Token) → Stops l rest → (ts : List PlacedToken) → tokens ts ≡ rest → starts test ts ≡ false
stops_at test l m none h rest s [] e = refl
stops_at test l m none h [] s (t ∷ ts) e = absurd (cc)
stops_at test l m none h (u ∷ us) s (t ∷ ts) e = starts_is test (t ∷ ts) u us e ∙ none u (omega (arith, h, s))

-- ---- what is asked of an answer

-- what was read is so, and the rest is left; or what is spelled passes the limit that the fault names
abbrev pub Fine : {A : Type 0} → (A → Type 0) → Bool → ℕ → ℕ → List Token → Step A → Type 0
Fine P w n d rest (got x ts) = P x × (tokens ts ≡ rest)
Fine P w n d rest (failed (Bad o) ts) = ⊥
Fine P w n d rest (failed (NumberRange o) ts) = w ≡ true
Fine P w n d rest (failed (TooDeep o) ts) = n < d
Fine P w n d rest (failed NoMemory ts) = ⊥

abbrev pub Is : FilterTree → FilterTree → Type 0
Is t x = x ≡ t

-- reading on where a part was read
pub then_fine : {A B : Type 0} (P : A → Type 0) (Q : B → Type 0) (w : Bool) (n m d e : ℕ) (mid rest : List Token) (r : Step A) (next : A → Reader B) → (n < d → m < e) →
    Fine P w n d mid r → ((x : A) → P x → (ts : List PlacedToken) → tokens ts ≡ mid → Fine Q w m e rest (next x ts)) → Fine Q w m e rest (then_read r next)
then_fine P Q w n m d e mid rest (got x ts) next g h k = k x h.0 ts h.1
then_fine P Q w n m d e mid rest (failed (Bad o) ts) next g h k = absurd h
then_fine P Q w n m d e mid rest (failed (NumberRange o) ts) next g h k = h
then_fine P Q w n m d e mid rest (failed (TooDeep o) ts) next g h k = g h
then_fine P Q w n m d e mid rest (failed NoMemory ts) next g h k = absurd h

pub fine_if : {A : Type 0} (P : A → Type 0) (w : Bool) (n d : ℕ) (rest : List Token) (b c : Bool) (x y : Step A) → b ≡ c → Fine P w n d rest (if c then x else y) → Fine P w n d rest (if b then x else y)
fine_if P w n d rest b c x y q h = subst (λ t. Fine P w n d rest (if t then x else y)) (sym q) h

-- ---- the rows, from the weakest binding on

abbrev pub row : ℕ → Inner → Reader FilterTree
row zero = or_in
row (suc zero) = and_in
row (suc (suc zero)) = not_in
row (suc (suc (suc zero))) = compare_in
row (suc (suc (suc (suc zero)))) = sum_in
row (suc (suc (suc (suc (suc zero))))) = product_in
row (suc (suc (suc (suc (suc (suc zero)))))) = unary_in
row (suc (suc (suc (suc (suc (suc (suc n))))))) = atom_in

chain_lift : (k : Kind) (part : Reader FilterTree) (w : Bool) (n d l : ℕ) (t : FilterTree) (rest : List Token) (ts : List PlacedToken) → l ≤ kind_strength k → Stops l rest →
    Fine (Is t) w n d rest (part ts) → Fine (Is t) w n d rest (chain_of k part ts)
unfolding chain_of
chain_lift k part w n d l t rest ts h stop f =
    then_fine (Is t) (Is t) w n n d d rest rest (part ts) (λ x us. chain_after k x (later k part us)) (λ x. x) f
    (λ x p us e. subst (λ r. Fine (Is t) w n d rest (chain_after k x r)) (sym (later-stop k part us (stops_at (joins k) l (kind_strength k) (joins_not k) h rest stop us e))) (p, e))

module _ (w : Bool) (n d : ℕ) (t : FilterTree) (us rest : List Token) (ts : List PlacedToken) (e : tokens ts ≡ us ++ rest) where
  no_not : (l : ℕ) (vs : List Token) → 3 ≤ l → Begun l vs → tokens ts ≡ vs ++ rest → starts is_not ts ≡ false
  no_not l [] h b q = absurd b
  no_not l (v ∷ vs) h b q = starts_is is_not ts v (vs ++ rest) q ∙ b.0 h

  no_minus : (l : ℕ) (vs : List Token) → 7 ≤ l → Begun l vs → tokens ts ≡ vs ++ rest → starts is_minus ts ≡ false
  no_minus l [] h b q = absurd b
  no_minus l (v ∷ vs) h b q = starts_is is_minus ts v (vs ++ rest) q ∙ b.1 h

  -- from one row to the row below
  lift : (s l : ℕ) → l < s → s ≤ 7 → Begun s us → Stops l rest → Fine (Is t) w n d rest (row (suc l) (within_depth n) ts) → Fine (Is t) w n d rest (row l (within_depth n) ts)
  unfolding or_in and_in not_in compare_in sum_in product_in unary_in
  lift s zero g h b stop f = chain_lift or_chain (and_in (within_depth n)) w n d 0 t rest ts (omega arith) stop f
  lift s (suc zero) g h b stop f = chain_lift and_chain (not_in (within_depth n)) w n d 1 t rest ts (omega arith) stop f
  lift s (suc (suc zero)) g h b stop f = fine_if (Is t) w n d rest (starts is_not ts) false _ _ (no_not s us (omega (arith, g)) b e) f
  lift s (suc (suc (suc zero))) g h b stop f =
      then_fine (Is t) (Is t) w n n d d rest rest (sum_in (within_depth n) ts) (compare_rest (within_depth n)) (λ x. x) f
      (λ x p vs q. fine_if (Is t) w n d rest (starts is_compare vs) false _ (got x vs) (stops_at is_compare 3 3 compares_not (omega arith) rest stop vs q) (p, q))
  lift s (suc (suc (suc (suc zero)))) g h b stop f = chain_lift sum_chain (product_in (within_depth n)) w n d 4 t rest ts (omega arith) stop f
  lift s (suc (suc (suc (suc (suc zero))))) g h b stop f = chain_lift product_chain (unary_in (within_depth n)) w n d 5 t rest ts (omega arith) stop f
  lift s (suc (suc (suc (suc (suc (suc zero)))))) g h b stop f = fine_if (Is t) w n d rest (starts is_minus ts) false _ _ (no_minus s us (omega (arith, g)) b e) f
  lift s (suc (suc (suc (suc (suc (suc (suc l))))))) g h b stop f = absurd (omega (arith, g, h))

  down : (k s l : ℕ) → l + k ≡ s → s ≤ 7 → Begun s us → Stops l rest → Fine (Is t) w n d rest (row s (within_depth n) ts) → Fine (Is t) w n d rest (row l (within_depth n) ts)
  down zero s l g h b stop f = let same : s ≡ l = omega (arith, g) in subst (λ m. Fine (Is t) w n d rest (row m (within_depth n) ts)) same f
  down (suc k) s l g h b stop f = lift s l (omega (arith, g)) h b stop (down k s (suc l) (omega (arith, g)) h b (stops_up l (suc l) rest (omega arith) stop) f)

  -- from the form's own row to any row below
  from_own : (s l : ℕ) → l ≤ s → s ≤ 7 → Begun s us → Stops l rest → Fine (Is t) w n d rest (row s (within_depth n) ts) → Fine (Is t) w n d rest (row l (within_depth n) ts)
  from_own s l g h b stop f = down (s - l) s l (omega (arith, g)) h b stop f

-- ---- each form at its own row

module _ (w : Bool) (n d : ℕ) (rest : List Token) (ts : List PlacedToken) where
  own_leaf : (t : FilterTree) (u : Token) → is_leaf u ≡ true → leaf_tree u ≡ t → tokens ts ≡ u ∷ rest → Fine (Is t) w n d rest (atom_in (within_depth n) ts)
  unfolding atom_in
  own_leaf t u l q e = fine_if (Is t) w n d rest (starts is_leaf ts) true _ _ (starts_is is_leaf ts u rest e ∙ l) (ap leaf_tree (first_is ts u rest e) ∙ q, drop_is ts u rest e)

  own_range : (t : FilterTree) → w ≡ true → tokens ts ≡ token.OutOfRange ∷ rest → Fine (Is t) w n d rest (atom_in (within_depth n) ts)
  unfolding atom_in
  own_range t b e =
      fine_if (Is t) w n d rest (starts is_leaf ts) false _ _ (starts_is is_leaf ts token.OutOfRange rest e)
      (fine_if (Is t) w n d rest (starts is_out_of_range ts) true _ _ (starts_is is_out_of_range ts token.OutOfRange rest e) b)

  own_parens : (t : FilterTree) (us : List Token) → tokens ts ≡ (token.Open ∷ (us ++ token.Close ∷ [])) ++ rest →
      ((m : ℕ) (vs : List PlacedToken) → tokens vs ≡ us ++ token.Close ∷ rest → Fine (Is t) w m d (token.Close ∷ rest) (or_in (within_depth m) vs)) →
      Fine (Is t) w n (suc d) rest (atom_in (within_depth n) ts)
  unfolding atom_in within_depth
  own_parens t us e ih =
      fine_if (Is t) w n (suc d) rest (starts is_leaf ts) false _ _ (starts_is is_leaf ts token.Open ((us ++ token.Close ∷ []) ++ rest) e)
      (fine_if (Is t) w n (suc d) rest (starts is_out_of_range ts) false _ _ (starts_is is_out_of_range ts token.Open ((us ++ token.Close ∷ []) ++ rest) e)
      (fine_if (Is t) w n (suc d) rest (starts is_open_paren ts) true _ _ (starts_is is_open_paren ts token.Open ((us ++ token.Close ∷ []) ++ rest) e) (by n)))
    where
      by : (m : ℕ) → Fine (Is t) w m (suc d) rest ((within_depth m).open_from ts)
      by zero = omega arith
      by (suc m) =
          then_fine (Is t) (Is t) w m (suc m) d (suc d) (token.Close ∷ rest) rest (or_in (within_depth m) (drop 1 ts)) close_read (λ x. omega (arith, x))
          (ih m (drop 1 ts) (drop_is ts token.Open ((us ++ token.Close ∷ []) ++ rest) e ∙ append_assoc us (token.Close ∷ []) rest))
          (λ x p vs q. fine_if (Is t) w (suc m) (suc d) rest (starts is_close_paren vs) true _ _ (starts_is is_close_paren vs token.Close rest q) (p, drop_is vs token.Close rest q))

  own_not : (t : FilterTree) (us : List Token) → tokens ts ≡ token.Not ∷ (us ++ rest) →
      ((m : ℕ) (vs : List PlacedToken) → tokens vs ≡ us ++ rest → Fine (Is t) w m d rest (not_in (within_depth m) vs)) → Fine (Is (not_tree t)) w n (suc d) rest (not_in (within_depth n) ts)
  unfolding not_in within_depth
  own_not t us e ih = fine_if (Is (not_tree t)) w n (suc d) rest (starts is_not ts) true _ _ (starts_is is_not ts token.Not (us ++ rest) e) (by n)
    where
      by : (m : ℕ) → Fine (Is (not_tree t)) w m (suc d) rest ((within_depth m).not_from ts)
      by zero = omega arith
      by (suc m) =
          then_fine (Is t) (Is (not_tree t)) w m (suc m) d (suc d) rest rest (not_in (within_depth m) (drop 1 ts)) got_not (λ x. omega (arith, x))
          (ih m (drop 1 ts) (drop_is ts token.Not (us ++ rest) e)) (λ x p vs q. (ap not_tree p, q))

  own_negate : (t : FilterTree) (us : List Token) → tokens ts ≡ token.Minus ∷ (us ++ rest) →
      ((m : ℕ) (vs : List PlacedToken) → tokens vs ≡ us ++ rest → Fine (Is t) w m d rest (unary_in (within_depth m) vs)) → Fine (Is (negate_tree t)) w n (suc d) rest (unary_in (within_depth n) ts)
  unfolding unary_in within_depth
  own_negate t us e ih = fine_if (Is (negate_tree t)) w n (suc d) rest (starts is_minus ts) true _ _ (starts_is is_minus ts token.Minus (us ++ rest) e) (by n)
    where
      by : (m : ℕ) → Fine (Is (negate_tree t)) w m (suc d) rest ((within_depth m).minus_from ts)
      by zero = omega arith
      by (suc m) =
          then_fine (Is t) (Is (negate_tree t)) w m (suc m) d (suc d) rest rest (unary_in (within_depth m) (drop 1 ts)) got_negative (λ x. omega (arith, x))
          (ih m (drop 1 ts) (drop_is ts token.Minus (us ++ rest) e)) (λ x p vs q. (ap negate_tree p, q))

  own_compare : (s t : FilterTree) (c : CompareSign) (us vs : List Token) → tokens ts ≡ (us ++ token.Compare c ∷ vs) ++ rest →
      ((qs : List PlacedToken) → tokens qs ≡ us ++ token.Compare c ∷ (vs ++ rest) → Fine (Is s) w n d (token.Compare c ∷ (vs ++ rest)) (sum_in (within_depth n) qs)) →
      ((qs : List PlacedToken) → tokens qs ≡ vs ++ rest → Fine (Is t) w n d rest (sum_in (within_depth n) qs)) → Fine (Is (compare_tree s c t)) w n d rest (compare_in (within_depth n) ts)
  unfolding compare_in
  own_compare s t c us vs e ih jh =
      then_fine (Is s) (Is (compare_tree s c t)) w n n d d (token.Compare c ∷ (vs ++ rest)) rest (sum_in (within_depth n) ts) (compare_rest (within_depth n)) (λ x. x)
      (ih ts (e ∙ append_assoc us (token.Compare c ∷ vs) rest))
      (λ x p qs q. fine_if (Is (compare_tree s c t)) w n d rest (starts is_compare qs) true _ _ (starts_is is_compare qs (token.Compare c) (vs ++ rest) q)
      (then_fine (Is t) (Is (compare_tree s c t)) w n n d d rest rest (sum_in (within_depth n) (drop 1 qs)) (λ b zs. got (compare_tree x (sign_of (first_token qs)) b) zs) (λ x. x)
      (jh (drop 1 qs) (drop_is qs (token.Compare c) (vs ++ rest) q))
      (λ y r zs z. (
        ap (λ a. compare_tree a (sign_of (first_token qs)) y) p ∙ ap (λ u. compare_tree s (sign_of u) y) (first_is qs (token.Compare c) (vs ++ rest) q) ∙ ap (compare_tree s c) r,
        z,
      ))))

  -- ---- chains

  own_chain : (k : Kind) (part : Reader FilterTree) (Q : List Part → Type 0) (t u : FilterTree) (us vs : List Token) → tokens ts ≡ (us ++ vs) ++ rest →
      ((qs : List PlacedToken) → tokens qs ≡ us ++ (vs ++ rest) → Fine (Is t) w n d (vs ++ rest) (part qs)) →
      ((qs : List PlacedToken) → tokens qs ≡ vs ++ rest → Fine Q w n d rest (later k part qs)) →
      ((ps : List Part) → Q ps → chain_or_part k t ps ≡ u) → Fine (Is u) w n d rest (chain_of k part ts)
  unfolding chain_of
  own_chain k part Q t u us vs e first more made =
      then_fine (Is t) (Is u) w n n d d (vs ++ rest) rest (part ts) (λ x qs. chain_after k x (later k part qs)) (λ x. x) (first ts (e ∙ append_assoc us vs rest))
      (λ x p qs q. then_fine Q (Is u) w n n d d rest rest (later k part qs) (λ ps zs. got (chain_or_part k x ps) zs) (λ x. x) (more qs q)
      (λ ps r zs z. (ap (λ y. chain_or_part k y ps) p ∙ made ps r, z)))

  no_later : (k : Kind) (part : Reader FilterTree) (Q : List Part → Type 0) → Stops (kind_strength k) rest → tokens ts ≡ rest → Q [] → Fine Q w n d rest (later k part ts)
  no_later k part Q stop e q =
      subst (λ r. Fine Q w n d rest r) (sym (later-stop k part ts (stops_at (joins k) (kind_strength k) (kind_strength k) (joins_not k) (omega arith) rest stop ts e))) (q, e)

  some_later : (k : Kind) (part : Reader FilterTree) (Q R : List Part → Type 0) (s : Token) (t : FilterTree) (us vs : List Token) → Shortens part → joins k s ≡ true →
      tokens ts ≡ (s ∷ (us ++ vs)) ++ rest →
      ((qs : List PlacedToken) → tokens qs ≡ us ++ (vs ++ rest) → Fine (Is t) w n d (vs ++ rest) (part qs)) →
      ((qs : List PlacedToken) → tokens qs ≡ vs ++ rest → Fine Q w n d rest (later k part qs)) →
      ((ps : List Part) → Q ps → R ((s, t) ∷ ps)) → Fine R w n d rest (later k part ts)
  some_later k part Q R s t us vs short j e first more made =
      subst (λ r. Fine R w n d rest r) (sym (later-more k part ts short (starts_is (joins k) ts s ((us ++ vs) ++ rest) e ∙ j)))
      (then_fine (Is t) R w n n d d (vs ++ rest) rest (part (drop 1 ts)) (λ x qs. with_front ((first_token ts, x) ∷ []) (later k part qs)) (λ x. x)
      (first (drop 1 ts) (drop_is ts s ((us ++ vs) ++ rest) e ∙ append_assoc us vs rest))
      (λ x p qs q. then_fine Q R w n n d d rest rest (later k part qs) (λ ps zs. got (((first_token ts, x) ∷ []) ++ ps) zs) (λ x. x) (more qs q)
      (λ ps r zs z. (
        subst (λ a. R ((a, x) ∷ ps)) (sym (first_is ts s ((us ++ vs) ++ rest) e)) (subst (λ y. R ((s, y) ∷ ps)) (sym p) (made ps r)),
        z,
      ))))

-- parts that make these later parts
abbrev Make : {A : Type 0} → (List Part → A) → A → List Part → Type 0
Make f ts ps = f ps ≡ ts

or_made : (s t : FilterTree) (ts : FilterTrees) (ps : List Part) → Make trees_behind (tree_then t ts) ps → chain_or_part or_chain s ps ≡ or_tree (tree_then s (tree_then t ts))
or_made s t ts [] e = absurd (cc)
or_made s t ts (p ∷ ps) e = ap (λ l. or_tree (tree_then s l)) e

and_made : (s t : FilterTree) (ts : FilterTrees) (ps : List Part) → Make trees_behind (tree_then t ts) ps → chain_or_part and_chain s ps ≡ and_tree (tree_then s (tree_then t ts))
and_made s t ts [] e = absurd (cc)
and_made s t ts (p ∷ ps) e = ap (λ l. and_tree (tree_then s l)) e

sum_made : (s : FilterTree) (c : SumSign) (t : FilterTree) (ts : SumTrees) (ps : List Part) → Make sums_behind (sum_then c t ts) ps → chain_or_part sum_chain s ps ≡ sum_tree s (sum_then c t ts)
sum_made s c t ts [] e = absurd (cc)
sum_made s c t ts (p ∷ ps) e = ap (sum_tree s) e

product_made : (s : FilterTree) (c : ProductSign) (t : FilterTree) (ts : ProductTrees) (ps : List Part) → Make products_behind (product_then c t ts) ps → chain_or_part product_chain s ps ≡ product_tree s (product_then c t ts)
product_made s c t ts [] e = absurd (cc)
product_made s c t ts (p ∷ ps) e = ap (product_tree s) e

-- what follows a part of a chain: the sign of the next one, or the rest
parts_stop : {w : Bool} {s : Token} {n d : ℕ} {ts : FilterTrees} {us : List Token} → Parts w s n d ts us → (l : ℕ) (rest : List Token) → tight s ≤ l → Stops l rest → Stops l (us ++ rest)
parts_stop parts_end l rest h stop = stop
parts_stop (parts_then p q) l rest h stop = h

sums_stop : {w : Bool} {d : ℕ} {ts : SumTrees} {us : List Token} → Sums w d ts us → (rest : List Token) → Stops 5 rest → Stops 5 (us ++ rest)
sums_stop sums_end rest stop = stop
sums_stop (sums_then {c = sum.Plus} p q) rest stop = omega arith
sums_stop (sums_then {c = sum.Minus} p q) rest stop = omega arith

products_stop : {w : Bool} {d : ℕ} {ts : ProductTrees} {us : List Token} → Products w d ts us → (rest : List Token) → Stops 6 rest → Stops 6 (us ++ rest)
products_stop products_end rest stop = stop
products_stop (products_then {c = product.Times} p q) rest stop = omega arith
products_stop (products_then {c = product.Divide} p q) rest stop = omega arith
products_stop (products_then {c = product.Rest} p q) rest stop = omega arith

-- ---- all forms

leaf_read : {w : Bool} {d : ℕ} (n m : ℕ) (rest : List Token) (ts : List PlacedToken) (u : Token) → is_leaf u ≡ true → Spelled w 7 d (leaf_tree u) (u ∷ []) → m ≤ 7 →
    tokens ts ≡ u ∷ rest → Stops m rest → Fine (Is (leaf_tree u)) w n d rest (row m (within_depth n) ts)
leaf_read {w = w} {d = d} n m rest ts u l p g e stop =
    from_own w n d (leaf_tree u) (u ∷ []) rest ts e 7 m g (omega arith) (begun p) stop (own_leaf w n d rest ts (leaf_tree u) u l refl e)

mutual
  unfolding or_in and_in sum_in product_in

  pub complete : {w : Bool} {l d : ℕ} {t : FilterTree} {us : List Token} → Spelled w l d t us → (n m : ℕ) (rest : List Token) (ts : List PlacedToken) → m ≤ l → m ≤ 7 →
      tokens ts ≡ us ++ rest → Stops m rest → Fine (Is t) w n d rest (row m (within_depth n) ts)
  complete {w = w} (or_form {d = d} {s = s} {t = t} {ts = ts} {us = us} {vs = vs} le p q) n m rest qs h g e stop =
      from_own w n d (or_tree (tree_then s (tree_then t ts))) (us ++ vs) rest qs e 0 m (omega (arith, h, le)) (omega arith) (begun (or_form (omega arith) p q)) stop
      (own_chain w n d rest qs or_chain (and_in (within_depth n)) (Make trees_behind (tree_then t ts)) s (or_tree (tree_then s (tree_then t ts))) us vs e
      (λ zs z. complete p n 1 (vs ++ rest) zs (omega arith) (omega arith) z (parts_stop q 1 rest (omega arith) (stops_up m 1 rest (omega (arith, h, le)) stop)))
      (λ zs z. complete_parts q or_chain n rest zs (omega arith) (omega arith) refl (omega arith) (shortens (and_local (within_depth n) (within_local n))) z (stops_up m 0 rest (omega (arith, h, le)) stop))
      (or_made s t ts))
  complete {w = w} (and_form {d = d} {s = s} {t = t} {ts = ts} {us = us} {vs = vs} le p q) n m rest qs h g e stop =
      from_own w n d (and_tree (tree_then s (tree_then t ts))) (us ++ vs) rest qs e 1 m (omega (arith, h, le)) (omega arith) (begun (and_form (omega arith) p q)) stop
      (own_chain w n d rest qs and_chain (not_in (within_depth n)) (Make trees_behind (tree_then t ts)) s (and_tree (tree_then s (tree_then t ts))) us vs e
      (λ zs z. complete p n 2 (vs ++ rest) zs (omega arith) (omega arith) z (parts_stop q 2 rest (omega arith) (stops_up m 2 rest (omega (arith, h, le)) stop)))
      (λ zs z. complete_parts q and_chain n rest zs (omega arith) (omega arith) refl (omega arith) (shortens (not_local (within_depth n) (within_local n))) z (stops_up m 1 rest (omega (arith, h, le)) stop))
      (and_made s t ts))
  complete {w = w} (not_form {d = d} {t = t} {us = us} le p) n m rest qs h g e stop =
      from_own w n (suc d) (not_tree t) (token.Not ∷ us) rest qs e 2 m (omega (arith, h, le)) (omega arith) (begun (not_form (omega arith) p)) stop
      (own_not w n d rest qs t us e (λ k vs z. complete p k 2 rest vs (omega arith) (omega arith) z (stops_up m 2 rest (omega (arith, h, le)) stop)))
  complete {w = w} (compare_form {d = d} {s = s} {t = t} {c = c} {us = us} {vs = vs} le p q) n m rest qs h g e stop =
      from_own w n d (compare_tree s c t) (us ++ token.Compare c ∷ vs) rest qs e 3 m (omega (arith, h, le)) (omega arith) (begun (compare_form (omega arith) p q)) stop
      (own_compare w n d rest qs s t c us vs e (λ zs z. complete p n 4 (token.Compare c ∷ (vs ++ rest)) zs (omega arith) (omega arith) z (omega arith))
      (λ zs z. complete q n 4 rest zs (omega arith) (omega arith) z (stops_up m 4 rest (omega (arith, h, le)) stop)))
  complete {w = w} (sum_form {d = d} {s = s} {t = t} {c = c} {ts = ts} {us = us} {vs = vs} le p q) n m rest qs h g e stop =
      from_own w n d (sum_tree s (sum_then c t ts)) (us ++ vs) rest qs e 4 m (omega (arith, h, le)) (omega arith) (begun (sum_form (omega arith) p q)) stop
      (own_chain w n d rest qs sum_chain (product_in (within_depth n)) (Make sums_behind (sum_then c t ts)) s (sum_tree s (sum_then c t ts)) us vs e
      (λ zs z. complete p n 5 (vs ++ rest) zs (omega arith) (omega arith) z (sums_stop q rest (stops_up m 5 rest (omega (arith, h, le)) stop)))
      (λ zs z. complete_sums q n rest zs z (stops_up m 4 rest (omega (arith, h, le)) stop))
      (sum_made s c t ts))
  complete {w = w} (product_form {d = d} {s = s} {t = t} {c = c} {ts = ts} {us = us} {vs = vs} le p q) n m rest qs h g e stop =
      from_own w n d (product_tree s (product_then c t ts)) (us ++ vs) rest qs e 5 m (omega (arith, h, le)) (omega arith) (begun (product_form (omega arith) p q)) stop
      (own_chain w n d rest qs product_chain (unary_in (within_depth n)) (Make products_behind (product_then c t ts)) s (product_tree s (product_then c t ts)) us vs e
      (λ zs z. complete p n 6 (vs ++ rest) zs (omega arith) (omega arith) z (products_stop q rest (stops_up m 6 rest (omega (arith, h, le)) stop)))
      (λ zs z. complete_products q n rest zs z (stops_up m 5 rest (omega (arith, h, le)) stop))
      (product_made s c t ts))
  complete {w = w} (negate_form {d = d} {t = t} {us = us} le p) n m rest qs h g e stop =
      from_own w n (suc d) (negate_tree t) (token.Minus ∷ us) rest qs e 6 m (omega (arith, h, le)) (omega arith) (begun (negate_form (omega arith) p)) stop
      (own_negate w n d rest qs t us e (λ k vs z. complete p k 6 rest vs (omega arith) (omega arith) z (stops_up m 6 rest (omega (arith, h, le)) stop)))
  complete {w = w} (parens_form {d = d} {t = t} {us = us} p) n m rest qs h g e stop =
      from_own w n (suc d) t (token.Open ∷ (us ++ token.Close ∷ [])) rest qs e 7 m g (omega arith) (begun (parens_form p)) stop
      (own_parens w n d rest qs t us e (λ k vs z. complete p k 0 (token.Close ∷ rest) vs (omega arith) (omega arith) z (omega arith)))
  complete (name_form s) n m rest qs h g e stop = leaf_read n m rest qs (token.Name s) refl (name_form s) g e stop
  complete (text_form s) n m rest qs h g e stop = leaf_read n m rest qs (token.Quoted s) refl (text_form s) g e stop
  complete (number_form z) n m rest qs h g e stop = leaf_read n m rest qs (token.Number z) refl (number_form z) g e stop
  complete {w = w} (out_of_range_form {d = d} z b) n m rest qs h g e stop =
      from_own w n d _ (token.OutOfRange ∷ []) rest qs e 7 m g (omega arith) (begun {d = d} (out_of_range_form z b)) stop (own_range w n d rest qs _ b e)
  complete true_form n m rest qs h g e stop = leaf_read n m rest qs token.True refl true_form g e stop
  complete false_form n m rest qs h g e stop = leaf_read n m rest qs token.False refl false_form g e stop
  complete null_form n m rest qs h g e stop = leaf_read n m rest qs token.Null refl null_form g e stop

  complete_parts : {w : Bool} {s : Token} {l d : ℕ} {ts : FilterTrees} {us : List Token} → Parts w s l d ts us → (k : Kind) (n : ℕ) (rest : List Token) (qs : List PlacedToken) → l ≤ 7 →
      kind_strength k ≤ l → joins k s ≡ true → tight s ≤ l → Shortens (row l (within_depth n)) → tokens qs ≡ us ++ rest → Stops (kind_strength k) rest →
      Fine (Make trees_behind ts) w n d rest (later k (row l (within_depth n)) qs)
  complete_parts {w = w} (parts_end {n = l} {d = d}) k n rest qs g f j a short e stop = no_later w n d rest qs k (row l (within_depth n)) (Make trees_behind _) stop e refl
  complete_parts {w = w} (parts_then {s = s} {n = l} {d = d} {t = t} {ts = ts} {us = us} {vs = vs} p q) k n rest qs g f j a short e stop =
      some_later w n d rest qs k (row l (within_depth n)) (Make trees_behind ts) (Make trees_behind (tree_then t ts)) s t us vs short j e
      (λ zs z. complete p n l (vs ++ rest) zs (omega arith) g z (parts_stop q l rest a (stops_up (kind_strength k) l rest f stop)))
      (λ zs z. complete_parts q k n rest zs g f j a short z stop) (λ ps r. ap (tree_then t) r)

  complete_sums : {w : Bool} {d : ℕ} {ts : SumTrees} {us : List Token} → Sums w d ts us → (n : ℕ) (rest : List Token) (qs : List PlacedToken) → tokens qs ≡ us ++ rest → Stops 4 rest →
      Fine (Make sums_behind ts) w n d rest (later sum_chain (product_in (within_depth n)) qs)
  complete_sums {w = w} (sums_end {d = d}) n rest qs e stop = no_later w n d rest qs sum_chain (product_in (within_depth n)) (Make sums_behind _) stop e refl
  complete_sums {w = w} (sums_then {d = d} {t = t} {c = c} {ts = ts} {us = us} {vs = vs} p q) n rest qs e stop =
      some_later w n d rest qs sum_chain (product_in (within_depth n)) (Make sums_behind ts) (Make sums_behind (sum_then c t ts)) (sum_token c) t us vs (shortens (product_local (within_depth n) (within_local n))) (sum_is c).1 e
      (λ zs z. complete p n 5 (vs ++ rest) zs (omega arith) (omega arith) z (sums_stop q rest (stops_up 4 5 rest (omega arith) stop)))
      (λ zs z. complete_sums q n rest zs z stop) (λ ps r. ap (λ a. sum_then a t (sums_behind ps)) (sum_is c).2 ∙ ap (sum_then c t) r)

  complete_products : {w : Bool} {d : ℕ} {ts : ProductTrees} {us : List Token} → Products w d ts us → (n : ℕ) (rest : List Token) (qs : List PlacedToken) → tokens qs ≡ us ++ rest → Stops 5 rest →
      Fine (Make products_behind ts) w n d rest (later product_chain (unary_in (within_depth n)) qs)
  complete_products {w = w} (products_end {d = d}) n rest qs e stop = no_later w n d rest qs product_chain (unary_in (within_depth n)) (Make products_behind _) stop e refl
  complete_products {w = w} (products_then {d = d} {t = t} {c = c} {ts = ts} {us = us} {vs = vs} p q) n rest qs e stop =
      some_later w n d rest qs product_chain (unary_in (within_depth n)) (Make products_behind ts) (Make products_behind (product_then c t ts)) (product_token c) t us vs (shortens (unary_local (within_depth n) (within_local n))) (product_is c).1 e
      (λ zs z. complete p n 6 (vs ++ rest) zs (omega arith) (omega arith) z (products_stop q rest (stops_up 5 6 rest (omega arith) stop)))
      (λ zs z. complete_products q n rest zs z stop) (λ ps r. ap (λ a. product_then a t (products_behind ps)) (product_is c).2 ∙ ap (product_then c t) r)
