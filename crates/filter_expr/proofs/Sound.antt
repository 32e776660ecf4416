-- What is read is spelled; what stands before a fault begins a filter; and a limit that is passed is passed by a filter.
use Rattle.std.proofs.Common.{◌≡◌, ℕ, zero, suc, ◌+◌, ◌≤◌, Bool, true, false, pos, List, [], ◌∷◌, ◌++◌, drop, length, refl, sym, ap, ◌∙◌, subst, arith, append_assoc}
use Rattle.std.proofs.lemmas.List.{append-nil}
use Rattle.plain_filters.specs.declared.SumSign.TheVariants as sum
use Rattle.plain_filters.specs.declared.ProductSign.TheVariants as product
use Rattle.plain_filters.specs.Filters.{FilterTree, not_tree, compare_tree, negate_tree, number_tree, null_tree}
use Rattle.filter_expr.specs.declared.tokens.Token.{Token}
use Rattle.filter_expr.specs.declared.tokens.Token.TheVariants as token
use Rattle.filter_expr.specs.declared.tokens.PlacedToken.{PlacedToken}
use Rattle.filter_expr.specs.declared.faults.FilterFault.{FilterFault}
use Rattle.filter_expr.specs.declared.faults.FilterFault.TheVariants.{Bad, NumberRange, TooDeep, NoMemory}
use Rattle.filter_expr.specs.Signs.{Kind, or_chain, and_chain, sum_chain, product_chain, joins, is_leaf, is_out_of_range, is_open_paren, is_minus, is_not, is_compare, is_close_paren}
use Rattle.filter_expr.specs.Spelled.{Spelled, Parts, Sums, Products, or_form, and_form, not_form, compare_form, sum_form, product_form, negate_form, parens_form, name_form, text_form, number_form, out_of_range_form, true_form, false_form, null_form, parts_end, parts_then, sums_end, sums_then, products_end, products_then}
use Rattle.filter_expr.specs.Filters.{tokens}
use Rattle.filter_expr.specs.Reading.{Part, Step, got, failed, Reader, then_read, starts, first_token, leaf_tree, sign_of, trees_behind, sums_behind, products_behind, joined, with_front, turns, later, chain_or_part, chain_after, chain_of, Inner, or_in, and_in, not_in, compare_in, sum_in, product_in, unary_in, atom_in, within_depth, compare_rest, got_not, got_negative, close_read, too_deep}
use Rattle.filter_expr.proofs.Chains.{wrong}
use Rattle.filter_expr.proofs.Spelled.{if_either}
use Rattle.filter_expr.proofs.Forms.{kind_strength, looser}

-- ---- what is said of the tokens that were used

-- something begins with these tokens at a place of this strength
abbrev pub Begins : ℕ → Bool → ℕ → List Token → Type 0
Begins l w d us = (t : FilterTree) × (more : List Token) × Spelled w l d t (us ++ more)

-- what goes on with the token of the fault, with numbers out of range or with more things open
abbrev pub Cause : (Bool → ℕ → List Token → Type 0) → ℕ → FilterFault → List Token → Token → Type 0
Cause P n (Bad o) us u = Unit {0}
Cause P n (NumberRange o) us u = (d : ℕ) × (n ≤ d) × P true d (us ++ u ∷ [])
Cause P n (TooDeep o) us u = (d : ℕ) × (n ≤ d) × P false d (us ++ u ∷ [])
Cause P n NoMemory us u = ⊥

abbrev pub Failure : (Bool → ℕ → List Token → Type 0) → ℕ → List PlacedToken → FilterFault → List PlacedToken → Type 0
Failure P n ts f rest = (us : List Token) × (tokens ts ≡ us ++ tokens rest) × P false n us × Cause P n f us (first_token rest)

abbrev pub Outcome : ℕ → ℕ → List PlacedToken → Step FilterTree → Type 0
Outcome l n ts (got t rest) = (us : List Token) × (tokens ts ≡ us ++ tokens rest) × Spelled false l n t us
Outcome l n ts (failed f rest) = Failure (Begins l) n ts f rest

-- a fault of a part is one of what the part stands in, behind these tokens
fails : (P Q : Bool → ℕ → List Token → Type 0) (up : ℕ → ℕ) (n : ℕ) (front : List Token) → ((d : ℕ) → n ≤ d → up n ≤ up d) →
    ((w : Bool) (d : ℕ) (vs : List Token) → n ≤ d → P w d vs → Q w (up d) (front ++ vs)) →
    (ts us : List PlacedToken) (f : FilterFault) (rest : List PlacedToken) → tokens ts ≡ front ++ tokens us → Failure P n us f rest → Failure Q (up n) ts f rest
fails P Q up n front grows into ts us f rest e o =
    (front ++ o.0, e ∙ ap (λ l. front ++ l) o.1 ∙ sym (append_assoc front o.0 (tokens rest)), into false n o.0 (omega arith) o.2, cause f o.3)
  where
    goes : (w : Bool) (d : ℕ) → n ≤ d → P w d (o.0 ++ first_token rest ∷ []) → Q w (up d) ((front ++ o.0) ++ first_token rest ∷ [])
    goes w d h p = subst (λ l. Q w (up d) l) (sym (append_assoc front o.0 (first_token rest ∷ []))) (into w d (o.0 ++ first_token rest ∷ []) h p)

    cause : (g : FilterFault) → Cause P n g o.0 (first_token rest) → Cause Q (up n) g (front ++ o.0) (first_token rest)
    cause (Bad x) c = tt
    cause (NumberRange x) c = (up c.0, grows c.0 c.1, goes true c.0 c.1 c.2)
    cause (TooDeep x) c = (up c.0, grows c.0 c.1, goes false c.0 c.1 c.2)
    cause NoMemory c = c

outcome_down : (l m n : ℕ) (ts : List PlacedToken) (r : Step FilterTree) → m ≤ l → Outcome l n ts r → Outcome m n ts r
outcome_down l m n ts (got t rest) h o = (o.0, o.1, looser (λ x. x) h (omega arith) o.2)
outcome_down l m n ts (failed f rest) h o =
    fails (Begins l) (Begins m) (λ d. d) n [] (λ d g. g) (λ w d vs g b. (b.0, b.1, looser (λ x. x) h (omega arith) b.2)) ts ts f rest refl o

-- `null` begins at every place
null_begins : (l n : ℕ) → Begins l false n []
null_begins l n = (null_tree, token.Null ∷ [], null_form)

outcome_bad : (l n : ℕ) (ts : List PlacedToken) (o : ℕ) → Outcome l n ts (failed (Bad o) ts)
outcome_bad l n ts o = ([], refl, null_begins l n, tt)

-- ---- tokens that were tested

not_is : (t : Token) → is_not t ≡ true → t ≡ token.Not
not_is token.Not e = refl
not_is _ e = absurd (wrong e)

minus_is : (t : Token) → is_minus t ≡ true → t ≡ token.Minus
minus_is token.Minus e = refl
minus_is _ e = absurd (wrong e)

open_is : (t : Token) → is_open_paren t ≡ true → t ≡ token.Open
open_is token.Open e = refl
open_is _ e = absurd (wrong e)

close_is : (t : Token) → is_close_paren t ≡ true → t ≡ token.Close
close_is token.Close e = refl
close_is _ e = absurd (wrong e)

range_is : (t : Token) → is_out_of_range t ≡ true → t ≡ token.OutOfRange
range_is token.OutOfRange e = refl
range_is _ e = absurd (wrong e)

compare_is : (t : Token) → is_compare t ≡ true → t ≡ token.Compare (sign_of t)
compare_is (token.Compare c) e = refl
compare_is _ e = absurd (wrong e)

leaf_spelled : (l n : ℕ) (t : Token) → is_leaf t ≡ true → Spelled false l n (leaf_tree t) (t ∷ [])
leaf_spelled l n (token.Name s) e = name_form s
leaf_spelled l n (token.Quoted s) e = text_form s
leaf_spelled l n (token.Number z) e = number_form z
leaf_spelled l n token.True e = true_form
leaf_spelled l n token.False e = false_form
leaf_spelled l n token.Null e = null_form
leaf_spelled l n _ e = absurd (wrong e)

-- the first token is this one
starts_with : (test : Token → Bool) (u : Token) → ((t : Token) → test t ≡ true → t ≡ u) → (ts : List PlacedToken) → starts test ts ≡ true → tokens ts ≡ u ∷ tokens (drop 1 ts)
starts_with test u only [] e = absurd (wrong e)
starts_with test u only (s ∷ ts) e = ap (λ t. t ∷ tokens ts) (only s.token e)

-- the readers from a token on that opens something, and the strengths of what they read
pub record SoundIn (n : ℕ) (i : Inner) : Type 0 where
  pub not_from : (ts : List PlacedToken) → starts is_not ts ≡ true → Outcome 2 n ts (i.not_from ts)
  pub minus_from : (ts : List PlacedToken) → starts is_minus ts ≡ true → Outcome 6 n ts (i.minus_from ts)
  pub open_from : (ts : List PlacedToken) → starts is_open_paren ts ≡ true → Outcome 7 n ts (i.open_from ts)

-- ---- later parts of a chain

abbrev Later : Kind → Bool → ℕ → List Part → List Token → Type 0
Later or_chain w d ps us = Parts w token.Or 1 d (trees_behind ps) us
Later and_chain w d ps us = Parts w token.And 2 d (trees_behind ps) us
Later sum_chain w d ps us = Sums w d (sums_behind ps) us
Later product_chain w d ps us = Products w d (products_behind ps) us

later_end : (k : Kind) (w : Bool) (d : ℕ) → Later k w d [] []
later_end or_chain w d = parts_end
later_end and_chain w d = parts_end
later_end sum_chain w d = sums_end
later_end product_chain w d = products_end

later_none : (k : Kind) (w : Bool) (d : ℕ) (us : List Token) → Later k w d [] us → us ≡ []
later_none or_chain w d us parts_end = refl
later_none and_chain w d us parts_end = refl
later_none sum_chain w d us sums_end = refl
later_none product_chain w d us products_end = refl

later_then : (k : Kind) (s : Token) → joins k s ≡ true → (w : Bool) (d : ℕ) (t : FilterTree) (ps : List Part) (us vs : List Token) → Spelled w (kind_strength k + 1) d t us → Later k w d ps vs →
    Later k w d ((s, t) ∷ ps) (s ∷ (us ++ vs))
later_then or_chain token.Or j w d t ps us vs p q = parts_then p q
later_then or_chain _ j w d t ps us vs p q = absurd (wrong j)
later_then and_chain token.And j w d t ps us vs p q = parts_then p q
later_then and_chain _ j w d t ps us vs p q = absurd (wrong j)
later_then sum_chain token.Plus j w d t ps us vs p q = sums_then {c = sum.Plus} p q
later_then sum_chain token.Minus j w d t ps us vs p q = sums_then {c = sum.Minus} p q
later_then sum_chain _ j w d t ps us vs p q = absurd (wrong j)
later_then product_chain token.Times j w d t ps us vs p q = products_then {c = product.Times} p q
later_then product_chain token.Divide j w d t ps us vs p q = products_then {c = product.Divide} p q
later_then product_chain token.Rest j w d t ps us vs p q = products_then {c = product.Rest} p q
later_then product_chain _ j w d t ps us vs p q = absurd (wrong j)

chain_made : (k : Kind) (w : Bool) (d : ℕ) (t : FilterTree) (p : Part) (ps : List Part) (us vs : List Token) → Spelled w (kind_strength k + 1) d t us → Later k w d (p ∷ ps) vs →
    Spelled w (kind_strength k) d (joined k t (p ∷ ps)) (us ++ vs)
chain_made or_chain w d t p ps us vs a b = or_form (omega arith) a b
chain_made and_chain w d t p ps us vs a b = and_form (omega arith) a b
chain_made sum_chain w d t p ps us vs a b = sum_form (omega arith) a b
chain_made product_chain w d t p ps us vs a b = product_form (omega arith) a b

-- later parts begin with these tokens
abbrev BeginsLater : Kind → Bool → ℕ → List Token → Type 0
BeginsLater k w d us = (p : Part) × (ps : List Part) × (more : List Token) × Later k w d (p ∷ ps) (us ++ more)

abbrev OutcomeLater : Kind → ℕ → List PlacedToken → Step (List Part) → Type 0
OutcomeLater k n ts (got ps rest) = (us : List Token) × (tokens ts ≡ us ++ tokens rest) × Later k false n ps us
OutcomeLater k n ts (failed f rest) = Failure (BeginsLater k) n ts f rest

module _ (n : ℕ) (k : Kind) (part : Reader FilterTree) (sound : (ts : List PlacedToken) → Outcome (kind_strength k + 1) n ts (part ts)) where
  -- what was read fits where more is open or any number stands
  fits : (w : Bool) (l d : ℕ) (t : FilterTree) (us : List Token) → n ≤ d → Spelled false l n t us → Spelled w l d t us
  fits w l d t us g p = looser (λ x. absurd (wrong x)) (omega arith) g p

  -- a sign, the outcome of the part behind it, and that of the parts behind this one
  one_more : (s : PlacedToken) (ts : List PlacedToken) (next : Reader (List Part)) → joins k s.token ≡ true → ((us : List PlacedToken) → OutcomeLater k n us (next us)) → (r : Step FilterTree) →
      Outcome (kind_strength k + 1) n ts r → OutcomeLater k n (s ∷ ts) (then_read r (λ t us. with_front ((s.token, t) ∷ []) (next us)))
  one_more s ts next j ih (failed f rest) o =
      fails (Begins (kind_strength k + 1)) (BeginsLater k) (λ d. d) n (s.token ∷ []) (λ d g. g)
      (λ w d vs g b. (
        (s.token, b.0),
        [],
        b.1,
        subst (λ l. Later k w d ((s.token, b.0) ∷ []) (s.token ∷ l)) (append-nil (vs ++ b.1)) (later_then k s.token j w d b.0 [] (vs ++ b.1) [] b.2 (later_end k w d)),
      )) (s ∷ ts) ts f rest refl o
  one_more s ts next j ih (got t us) o = by (next us) (ih us)
    where
      by : (r : Step (List Part)) → OutcomeLater k n us r → OutcomeLater k n (s ∷ ts) (with_front ((s.token, t) ∷ []) r)
      by (got ps rest) m = (
        s.token ∷ (o.0 ++ m.0),
        ap (λ l. s.token ∷ l) (o.1 ∙ ap (λ l. o.0 ++ l) m.1 ∙ sym (append_assoc o.0 m.0 (tokens rest))),
        later_then k s.token j false n t ps o.0 m.0 o.2 m.2,
      )
      by (failed f rest) m =
          fails (BeginsLater k) (BeginsLater k) (λ d. d) n (s.token ∷ o.0) (λ d g. g)
          (λ w d vs g b. (
            (s.token, t),
            b.0 ∷ b.1,
            b.2,
            subst (λ l. Later k w d ((s.token, t) ∷ (b.0 ∷ b.1)) (s.token ∷ l)) (sym (append_assoc o.0 vs b.2))
                (later_then k s.token j w d t (b.0 ∷ b.1) o.0 (vs ++ b.2) (fits w (kind_strength k + 1) d t o.0 g o.2) b.3),
          )) (s ∷ ts) us f rest (ap (λ l. s.token ∷ l) o.1) m

  no_more : (ts : List PlacedToken) → OutcomeLater k n ts (got [] ts)
  no_more ts = ([], refl, later_end k false n)

  sound_turns : (m : ℕ) (ts : List PlacedToken) → OutcomeLater k n ts (turns k part m ts)
  unfolding turns
  sound_turns zero ts = no_more ts
  sound_turns (suc m) [] = no_more []
  sound_turns (suc m) (s ∷ ts) =
      if_either (OutcomeLater k n (s ∷ ts)) (joins k s.token) _ _ (λ e. one_more s ts (turns k part m) e (sound_turns m) (part ts) (sound ts)) (λ _. no_more (s ∷ ts))

  -- a part alone, or the chain of it and the later ones
  whole_chain : (t : FilterTree) (us : List Token) → Spelled false (kind_strength k + 1) n t us → (ps : List Part) (vs : List Token) → Later k false n ps vs →
      Spelled false (kind_strength k) n (chain_or_part k t ps) (us ++ vs)
  whole_chain t us p [] vs q =
      subst (λ l. Spelled false (kind_strength k) n t l) (sym (ap (λ l. us ++ l) (later_none k false n vs q) ∙ append-nil us)) (looser (λ x. x) (omega arith) (omega arith) p)
  whole_chain t us p (x ∷ ps) vs q = chain_made k false n t x ps us vs p q

  sound_chain : (ts : List PlacedToken) → Outcome (kind_strength k) n ts (chain_of k part ts)
  unfolding chain_of later
  sound_chain ts = by (part ts) (sound ts)
    where
      after : (t : FilterTree) (us : List PlacedToken) (o : Outcome (kind_strength k + 1) n ts (got t us)) (r : Step (List Part)) → OutcomeLater k n us r → Outcome (kind_strength k) n ts (chain_after k t r)
      after t us o (got ps rest) m =
          (o.0 ++ m.0, o.1 ∙ ap (λ l. o.0 ++ l) m.1 ∙ sym (append_assoc o.0 m.0 (tokens rest)), whole_chain t o.0 o.2 ps m.0 m.2)
      after t us o (failed f rest) m =
          fails (BeginsLater k) (Begins (kind_strength k)) (λ d. d) n o.0 (λ d g. g)
          (λ w d vs g b. (
            joined k t (b.0 ∷ b.1),
            b.2,
            subst (λ l. Spelled w (kind_strength k) d (joined k t (b.0 ∷ b.1)) l) (sym (append_assoc o.0 vs b.2))
                (chain_made k w d t b.0 b.1 o.0 (vs ++ b.2) (fits w (kind_strength k + 1) d t o.0 g o.2) b.3),
          )) ts us f rest o.1 m

      by : (r : Step FilterTree) → Outcome (kind_strength k + 1) n ts r → Outcome (kind_strength k) n ts (then_read r (λ t us. chain_after k t (turns k part (length us) us)))
      by (got t us) o = after t us o (turns k part (length us) us) (sound_turns (length us) us)
      by (failed f rest) o = outcome_down (kind_strength k + 1) (kind_strength k) n ts (failed f rest) (omega arith) o

-- ---- all rows

module _ (n : ℕ) (i : Inner) (sound : SoundIn n i) where
  sound_atom : (ts : List PlacedToken) → Outcome 7 n ts (atom_in i ts)
  unfolding atom_in
  sound_atom [] = outcome_bad 7 n [] 0
  sound_atom (s ∷ ts) =
      if_either (Outcome 7 n (s ∷ ts)) (is_leaf s.token) _ _ (λ e. (s.token ∷ [], refl, leaf_spelled 7 n s.token e))
      (λ _. if_either (Outcome 7 n (s ∷ ts)) (is_out_of_range s.token) _ _
      (λ e. (
        [],
        refl,
        null_begins 7 n,
        (n, omega arith, (number_tree (pos 0), [], subst (λ u. Spelled true 7 n (number_tree (pos 0)) (u ∷ [])) (sym (range_is s.token e)) (out_of_range_form (pos 0) refl))),
      ))
      (λ _. if_either (Outcome 7 n (s ∷ ts)) (is_open_paren s.token) _ _ (λ e. sound.open_from (s ∷ ts) e) (λ _. outcome_bad 7 n (s ∷ ts) s.offset)))

  sound_unary : (ts : List PlacedToken) → Outcome 6 n ts (unary_in i ts)
  unfolding unary_in
  sound_unary ts = if_either (Outcome 6 n ts) (starts is_minus ts) _ _ (sound.minus_from ts) (λ _. outcome_down 7 6 n ts (atom_in i ts) (omega arith) (sound_atom ts))

  sound_product : (ts : List PlacedToken) → Outcome 5 n ts (product_in i ts)
  unfolding product_in
  sound_product = sound_chain n product_chain (unary_in i) sound_unary

  sound_sum : (ts : List PlacedToken) → Outcome 4 n ts (sum_in i ts)
  unfolding sum_in
  sound_sum = sound_chain n sum_chain (product_in i) sound_product

  -- a comparing sign and the outcome of what stands behind it
  second : (ts : List PlacedToken) (a : FilterTree) (s : PlacedToken) (vs : List PlacedToken) (o : Outcome 4 n ts (got a (s ∷ vs))) → is_compare s.token ≡ true → (r : Step FilterTree) → Outcome 4 n vs r →
      Outcome 3 n ts (then_read r (λ b ws. got (compare_tree a (sign_of s.token) b) ws))
  second ts a s vs o j (got b rest) m = (
    o.0 ++ s.token ∷ m.0,
    o.1 ∙ ap (λ l. o.0 ++ s.token ∷ l) m.1 ∙ sym (append_assoc o.0 (s.token ∷ m.0) (tokens rest)),
    subst (λ u. Spelled false 3 n (compare_tree a (sign_of s.token) b) (o.0 ++ u ∷ m.0)) (sym (compare_is s.token j)) (compare_form (omega arith) o.2 m.2),
  )
  second ts a s vs o j (failed f rest) m =
      fails (Begins 4) (Begins 3) (λ d. d) n (o.0 ++ s.token ∷ []) (λ d g. g)
      (λ w d us g b. (
        compare_tree a (sign_of s.token) b.0,
        b.1,
        subst (λ l. Spelled w 3 d (compare_tree a (sign_of s.token) b.0) l) (sym (append_assoc (o.0 ++ s.token ∷ []) us b.1 ∙ append_assoc o.0 (s.token ∷ []) (us ++ b.1)))
            (subst (λ u. Spelled w 3 d (compare_tree a (sign_of s.token) b.0) (o.0 ++ u ∷ (us ++ b.1))) (sym (compare_is s.token j))
            (compare_form (omega arith) (looser (λ x. absurd (wrong x)) (omega arith) g o.2) b.2)),
      )) ts vs f rest (o.1 ∙ sym (append_assoc o.0 (s.token ∷ []) (tokens vs))) m

  sound_compare : (ts : List PlacedToken) → Outcome 3 n ts (compare_in i ts)
  unfolding compare_in
  sound_compare ts = by (sum_in i ts) (sound_sum ts)
    where
      by : (r : Step FilterTree) → Outcome 4 n ts r → Outcome 3 n ts (then_read r (compare_rest i))
      by (got a []) o = outcome_down 4 3 n ts (got a []) (omega arith) o
      by (got a (s ∷ vs)) o =
          if_either (Outcome 3 n ts) (is_compare s.token) _ _ (λ e. second ts a s vs o e (sum_in i vs) (sound_sum vs)) (λ _. outcome_down 4 3 n ts (got a (s ∷ vs)) (omega arith) o)
      by (failed f rest) o = outcome_down 4 3 n ts (failed f rest) (omega arith) o

  pub sound_not : (ts : List PlacedToken) → Outcome 2 n ts (not_in i ts)
  unfolding not_in
  sound_not ts = if_either (Outcome 2 n ts) (starts is_not ts) _ _ (sound.not_from ts) (λ _. outcome_down 3 2 n ts (compare_in i ts) (omega arith) (sound_compare ts))

  sound_and : (ts : List PlacedToken) → Outcome 1 n ts (and_in i ts)
  unfolding and_in
  sound_and = sound_chain n and_chain (not_in i) sound_not

  pub sound_or : (ts : List PlacedToken) → Outcome 0 n ts (or_in i ts)
  unfolding or_in
  sound_or = sound_chain n or_chain (and_in i) sound_and

-- ---- what a token opens

module _ (n : ℕ) (ts : List PlacedToken) where
  behind_not : tokens ts ≡ token.Not ∷ tokens (drop 1 ts) → (r : Step FilterTree) → Outcome 2 n (drop 1 ts) r → Outcome 2 (suc n) ts (then_read r got_not)
  behind_not e (got t rest) o = (token.Not ∷ o.0, e ∙ ap (λ l. token.Not ∷ l) o.1, not_form (omega arith) o.2)
  behind_not e (failed f rest) o =
      fails (Begins 2) (Begins 2) suc n (token.Not ∷ []) (λ d g. omega (arith, g)) (λ w d vs g b. (not_tree b.0, b.1, not_form (omega arith) b.2)) ts (drop 1 ts) f rest e o

  behind_minus : tokens ts ≡ token.Minus ∷ tokens (drop 1 ts) → (r : Step FilterTree) → Outcome 6 n (drop 1 ts) r → Outcome 6 (suc n) ts (then_read r got_negative)
  behind_minus e (got t rest) o = (token.Minus ∷ o.0, e ∙ ap (λ l. token.Minus ∷ l) o.1, negate_form (omega arith) o.2)
  behind_minus e (failed f rest) o =
      fails (Begins 6) (Begins 6) suc n (token.Minus ∷ []) (λ d g. omega (arith, g)) (λ w d vs g b. (negate_tree b.0, b.1, negate_form (omega arith) b.2)) ts (drop 1 ts) f rest e o

  enclosed : tokens ts ≡ token.Open ∷ tokens (drop 1 ts) → (r : Step FilterTree) → Outcome 0 n (drop 1 ts) r → Outcome 7 (suc n) ts (then_read r close_read)
  enclosed e (failed f rest) o =
      fails (Begins 0) (Begins 7) suc n (token.Open ∷ []) (λ d g. omega (arith, g))
      (λ w d vs g b. (
        b.0,
        b.1 ++ token.Close ∷ [],
        subst (λ l. Spelled w 7 (suc d) b.0 (token.Open ∷ l)) (append_assoc vs b.1 (token.Close ∷ [])) (parens_form b.2),
      )) ts (drop 1 ts) f rest e o
  enclosed e (got t rest) o =
      if_either (Outcome 7 (suc n) ts) (starts is_close_paren rest) _ _
      (λ c. (
        token.Open ∷ (o.0 ++ token.Close ∷ []),
        e ∙ ap (λ l. token.Open ∷ l) (o.1 ∙ ap (λ l. o.0 ++ l) (starts_with is_close_paren token.Close close_is rest c) ∙ sym (append_assoc o.0 (token.Close ∷ []) (tokens (drop 1 rest)))),
        parens_form o.2,
      ))
      (λ _. (token.Open ∷ o.0, e ∙ ap (λ l. token.Open ∷ l) o.1, (t, token.Close ∷ [], parens_form o.2), tt))

-- one thing more than may be open
opened_more : (l : ℕ) (ts : List PlacedToken) (u : Token) (t : FilterTree) (more : List Token) → tokens ts ≡ u ∷ tokens (drop 1 ts) → Spelled false l 1 t (u ∷ more) → Outcome l 0 ts (too_deep ts)
opened_more l [] u t more e p = absurd (cc)
opened_more l (s ∷ ts) u t more e p =
    let first : s.token ≡ u = cc in
    ([], refl, null_begins l 0, (1, omega arith, (t, more, subst (λ x. Spelled false l 1 t (x ∷ more)) (sym first) p)))

pub within_sound : (n : ℕ) → SoundIn n (within_depth n)
unfolding within_depth
within_sound zero = record {
  not_from = λ ts h. opened_more 2 ts token.Not (not_tree null_tree) (token.Null ∷ []) (starts_with is_not token.Not not_is ts h) (not_form (omega arith) null_form);
  minus_from = λ ts h. opened_more 6 ts token.Minus (negate_tree null_tree) (token.Null ∷ []) (starts_with is_minus token.Minus minus_is ts h) (negate_form (omega arith) null_form);
  open_from = λ ts h. opened_more 7 ts token.Open null_tree (token.Null ∷ token.Close ∷ []) (starts_with is_open_paren token.Open open_is ts h) (parens_form null_form);
}
within_sound (suc n) = record {
  not_from = λ ts h. behind_not n ts (starts_with is_not token.Not not_is ts h) (not_in (within_depth n) (drop 1 ts)) (sound_not n (within_depth n) (within_sound n) (drop 1 ts));
  minus_from = λ ts h. behind_minus n ts (starts_with is_minus token.Minus minus_is ts h) (unary_in (within_depth n) (drop 1 ts)) (sound_unary n (within_depth n) (within_sound n) (drop 1 ts));
  open_from = λ ts h. enclosed n ts (starts_with is_open_paren token.Open open_is ts h) (or_in (within_depth n) (drop 1 ts)) (sound_or n (within_depth n) (within_sound n) (drop 1 ts));
}
