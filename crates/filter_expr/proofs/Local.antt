-- What the reader answers depends on no token behind the one at which it stops, and its faults stand there.
use Rattle.std.proofs.Common.{◌≡◌, ℕ, zero, suc, ◌≤◌, Bool, true, false, if◌then◌else◌, List, [], ◌∷◌, ◌++◌, drop, length, refl, sym, ap, ◌∙◌, subst, arith, append_assoc}
use Rattle.std.proofs.lemmas.List.{length-append}
use Rattle.plain_filters.specs.Filters.{FilterTree, not_tree, negate_tree, compare_tree}
use Rattle.filter_expr.specs.declared.tokens.Token.{Token}
use Rattle.filter_expr.specs.declared.tokens.PlacedToken.{PlacedToken}
use Rattle.filter_expr.specs.declared.faults.FilterFault.{FilterFault}
use Rattle.filter_expr.specs.declared.faults.FilterFault.TheVariants.{Bad, NumberRange, TooDeep, NoMemory}
use Rattle.filter_expr.specs.Signs.{Kind, or_chain, and_chain, sum_chain, product_chain, joins, is_leaf, is_out_of_range, is_open_paren, is_minus, is_not, is_compare, is_close_paren, is_end}
use Rattle.filter_expr.specs.Reading.{Part, Step, got, failed, Reader, then_read, starts, first_token, place, with_front, later, chain_or_part, chain_after, chain_of, Inner, leaf_tree, or_in, and_in, not_in, compare_in, sum_in, product_in, unary_in, atom_in, within_depth, compare_rest, got_not, got_negative, close_read, end_read, whole_filter, sign_of}
use Rattle.filter_expr.proofs.Chains.{wrong, rest_of, Shortens, later-stop, later-more}

pub drop_one : (ts : List PlacedToken) → length (drop 1 ts) ≤ length ts
drop_one [] = omega arith
drop_one (s ∷ ts) = omega arith

-- the fault names the first of these tokens; want of memory is no fault of a text
abbrev pub IsAt : FilterFault → List PlacedToken → Type 0
IsAt (Bad o) ts = o ≡ place ts
IsAt (NumberRange o) ts = o ≡ place ts
IsAt (TooDeep o) ts = o ≡ place ts
IsAt NoMemory ts = ⊥

abbrev pub InPlace : {A : Type 0} → Step A → Type 0
InPlace (got x ts) = Unit {0}
InPlace (failed f ts) = IsAt f ts

abbrev pub with_rest : {A : Type 0} → List PlacedToken → Step A → Step A
with_rest us (got x ts) = got x us
with_rest us (failed f ts) = failed f us

-- what was used of the tokens, and that the same comes out where other tokens follow the next one
pub record At {A : Type 0} (part : Reader A) (ts : List PlacedToken) (r : Step A) : Type 0 where
  pub used : List PlacedToken
  pub split : ts ≡ used ++ rest_of r
  pub again : (s : PlacedToken) (a b : List PlacedToken) → rest_of r ≡ s ∷ a → part (used ++ s ∷ b) ≡ with_rest (s ∷ b) r
  pub at : InPlace r

pub record Local {A : Type 0} (part : Reader A) : Type 0 where
  pub here : (ts : List PlacedToken) → At part ts (part ts)

pub shortens : {A : Type 0} {part : Reader A} → Local part → Shortens part
shortens {part = part} loc = record {
  fewer = λ ts. omega (arith, ap length (loc.here ts).split, length-append (loc.here ts).used (rest_of (part ts)));
}

same_start : (test : Token → Bool) (used a b : List PlacedToken) (s : PlacedToken) → starts test (used ++ s ∷ b) ≡ starts test (used ++ s ∷ a)
same_start test [] a b s = refl
same_start test (t ∷ used) a b s = refl

-- ---- combinators

local_got : {A : Type 0} (x : A) → Local (λ ts. got x ts)
local_got x = record { here = λ ts. record { used = []; split = refl; again = λ s a b r. refl; at = tt } }

local_fail : {A : Type 0} (f : ℕ → FilterFault) → ((ts : List PlacedToken) → IsAt (f (place ts)) ts) → Local {A = A} (λ ts. failed (f (place ts)) ts)
local_fail f p = record { here = λ ts. record { used = []; split = refl; again = λ s a b r. ap (λ us. failed (f (place us)) (s ∷ b)) (sym r); at = p ts } }

local_bad : {A : Type 0} → Local {A = A} (λ ts. failed (Bad (place ts)) ts)
local_bad = local_fail Bad (λ ts. refl)

pub then_at : {A B : Type 0} (p : Reader A) (next : A → Reader B) (ts : List PlacedToken) (r : Step A) → At p ts r → ((x : A) (us : List PlacedToken) → r ≡ got x us → At (next x) us (next x us)) →
    At (λ vs. then_read (p vs) next) ts (then_read r next)
then_at p next ts (got x us) h k = by (k x us refl)
  where
    again_of : (used : List PlacedToken) → us ≡ used ++ rest_of (next x us) → ((s : PlacedToken) (a b : List PlacedToken) → rest_of (next x us) ≡ s ∷ a → next x (used ++ s ∷ b) ≡ with_rest (s ∷ b) (next x us)) →
        (s : PlacedToken) (a b : List PlacedToken) → rest_of (next x us) ≡ s ∷ a → then_read (p ((h.used ++ used) ++ s ∷ b)) next ≡ with_rest (s ∷ b) (next x us)
    again_of [] split again s a b e =
        ap (λ vs. then_read (p vs) next) (append_assoc h.used [] (s ∷ b))
        ∙ ap (λ q. then_read q next) (h.again s a b (split ∙ e)) ∙ again s a b e
    again_of (t ∷ used) split again s a b e =
        ap (λ vs. then_read (p vs) next) (append_assoc h.used (t ∷ used) (s ∷ b))
        ∙ ap (λ q. then_read q next) (h.again t (used ++ rest_of (next x us)) (used ++ s ∷ b) split) ∙ again s a b e

    by : At (next x) us (next x us) → At (λ vs. then_read (p vs) next) ts (next x us)
    by m = record {
      used = h.used ++ m.used;
      split = h.split ∙ ap (λ l. h.used ++ l) m.split ∙ sym (append_assoc h.used m.used (rest_of (next x us)));
      again = again_of m.used m.split m.again;
      at = m.at;
    }
then_at p next ts (failed f us) h k = record { used = h.used; split = h.split; again = λ s a b e. ap (λ q. then_read q next) (h.again s a b e); at = h.at }

local_then : {A B : Type 0} (p : Reader A) (next : A → Reader B) → Local p → ((x : A) → Local (next x)) → Local (λ vs. then_read (p vs) next)
local_then p next h k = record { here = λ ts. then_at p next ts (p ts) (h.here ts) (λ x us _. (k x).here us) }

-- a reader that is another one where the first token is as it is here
same_at : {A : Type 0} (test : Token → Bool) (c : Bool) (p q : Reader A) (ts : List PlacedToken) → starts test ts ≡ c → ((us : List PlacedToken) → starts test us ≡ c → p us ≡ q us) →
    At q ts (q ts) → At p ts (p ts)
same_at test c p q ts e same h = subst (At p ts) (sym (same ts e)) record {
  used = h.used;
  split = h.split;
  again = λ s a b r.
      same (h.used ++ s ∷ b) (same_start test h.used a b s ∙ ap (λ l. starts test (h.used ++ l)) (sym r) ∙ ap (starts test) (sym h.split) ∙ e) ∙ h.again s a b r;
  at = h.at;
}

local_cond : {A : Type 0} (test : Token → Bool) (p q : Reader A) → Local p → Local q → Local (λ ts. if starts test ts then p ts else q ts)
local_cond test p q h k = record { here = λ ts. by ts (starts test ts) refl }
  where
    by : (ts : List PlacedToken) (c : Bool) → starts test ts ≡ c → At (λ us. if starts test us then p us else q us) ts (if starts test ts then p ts else q ts)
    by ts true e = same_at test true (λ us. if starts test us then p us else q us) p ts e (λ us g. ap (λ t. if t then p us else q us) g) (h.here ts)
    by ts false e = same_at test false (λ us. if starts test us then p us else q us) q ts e (λ us g. ap (λ t. if t then p us else q us) g) (k.here ts)

-- one token, whatever it is
take_one : Reader Token
take_one ts = got (first_token ts) (drop 1 ts)

local_one : Local take_one
unfolding take_one
local_one = record { here = by }
  where
    by : (ts : List PlacedToken) → At take_one ts (got (first_token ts) (drop 1 ts))
    by [] = record { used = []; split = refl; again = λ s a b r. absurd (nothing s a r); at = tt }
      where
        nothing : (s : PlacedToken) (a : List PlacedToken) → [] ≡ s ∷ a → ⊥
        nothing s a r = wrong (ap (starts (λ _. true)) r)
    by (t ∷ ts) = record { used = t ∷ []; split = refl; again = λ s a b r. refl; at = tt }

local_map : {A B : Type 0} (f : A → B) (p : Reader A) → Local p → Local (λ ts. then_read (p ts) (λ x us. got (f x) us))
local_map f p h = local_then p (λ x us. got (f x) us) h (λ x. local_got (f x))

-- ---- chains

module _ (k : Kind) (part : Reader FilterTree) (loc : Local part) where
  -- one part with the sign before it, and then the others
  more_of : Reader (List Part)
  more_of ts = then_read (take_one ts) (λ s us. then_read (part us) (λ t vs. with_front ((s, t) ∷ []) (later k part vs)))

  stop_at : (ts : List PlacedToken) → starts (joins k) ts ≡ false → At (later k part) ts (later k part ts)
  stop_at ts e = same_at (joins k) false (later k part) (λ us. got [] us) ts e (λ us g. later-stop k part us g) ((local_got []).here ts)

  more_at : (s : PlacedToken) (ts : List PlacedToken) → ((us : List PlacedToken) → length us ≤ length ts → At (later k part) us (later k part us)) → At more_of (s ∷ ts) (more_of (s ∷ ts))
  unfolding more_of take_one
  more_at s ts ih =
      then_at take_one (λ x us. then_read (part us) (λ t vs. with_front ((x, t) ∷ []) (later k part vs))) (s ∷ ts) (got s.token ts) (local_one.here (s ∷ ts)) inner
    where
      inner : (x : Token) (us : List PlacedToken) → got s.token ts ≡ got x us → At (λ ws. then_read (part ws) (λ t vs. with_front ((x, t) ∷ []) (later k part vs))) us
          (then_read (part us) (λ t vs. with_front ((x, t) ∷ []) (later k part vs)))
      inner x us q =
          let same : us ≡ ts = cc in
          then_at part (λ t vs. with_front ((x, t) ∷ []) (later k part vs)) us (part us) (loc.here us)
          (λ t vs g. then_at (later k part) (λ l zs. got (((x, t) ∷ []) ++ l) zs) vs (later k part vs)
          (ih vs (omega (arith, ap length (ap rest_of g), (shortens loc).fewer us, ap length same)))
          (λ l zs _. (local_got (((x, t) ∷ []) ++ l)).here zs))

  later_at : (m : ℕ) (ts : List PlacedToken) → length ts ≤ m → At (later k part) ts (later k part ts)
  unfolding more_of take_one
  later_at m [] h = stop_at [] refl
  later_at zero (s ∷ ts) h = absurd (omega (arith, h))
  later_at (suc m) (s ∷ ts) h = by (λ us l. later_at m us (omega (arith, l, h))) (joins k s.token) refl
    where
      by : ((us : List PlacedToken) → length us ≤ length ts → At (later k part) us (later k part us)) → (c : Bool) → joins k s.token ≡ c → At (later k part) (s ∷ ts) (later k part (s ∷ ts))
      by ih true e = same_at (joins k) true (later k part) more_of (s ∷ ts) e (λ us g. later-more k part us (shortens loc) g) (more_at s ts ih)
      by ih false e = stop_at (s ∷ ts) e

  pub chain_local : Local (chain_of k part)
  unfolding chain_of
  chain_local = local_then part (λ t us. chain_after k t (later k part us)) loc
      (λ t. local_map (chain_or_part k t) (later k part) record { here = λ ts. later_at (length ts) ts (omega arith) })

-- ---- rows

pub record LocalIn (i : Inner) : Type 0 where
  pub not_from : Local i.not_from
  pub minus_from : Local i.minus_from
  pub open_from : Local i.open_from

-- a token is passed over, and then something is there
local_after : {A : Type 0} (x : A) → Local (λ ts. got x (drop 1 ts))
unfolding take_one
local_after x = local_then take_one (λ _ us. got x us) local_one (λ _. local_got x)

module _ (i : Inner) (loc : LocalIn i) where
  atom_local : Local (atom_in i)
  unfolding atom_in take_one
  atom_local =
      local_cond is_leaf (λ ts. got (leaf_tree (first_token ts)) (drop 1 ts)) (λ ts. if starts is_out_of_range ts then failed (NumberRange (place ts)) ts else (if starts is_open_paren ts then i.open_from ts else failed (Bad (place ts)) ts))
      (local_map leaf_tree take_one local_one)
      (local_cond is_out_of_range (λ ts. failed (NumberRange (place ts)) ts) (λ ts. if starts is_open_paren ts then i.open_from ts else failed (Bad (place ts)) ts) (local_fail NumberRange (λ ts. refl))
      (local_cond is_open_paren i.open_from (λ ts. failed (Bad (place ts)) ts) loc.open_from local_bad))

  pub unary_local : Local (unary_in i)
  unfolding unary_in
  unary_local = local_cond is_minus i.minus_from (atom_in i) loc.minus_from atom_local

  pub product_local : Local (product_in i)
  unfolding product_in
  product_local = chain_local product_chain (unary_in i) unary_local

  sum_local : Local (sum_in i)
  unfolding sum_in
  sum_local = chain_local sum_chain (product_in i) product_local

  compare_local : Local (compare_in i)
  unfolding compare_in take_one
  compare_local = local_then (sum_in i) (compare_rest i) sum_local
      (λ a. local_cond is_compare (λ us. then_read (sum_in i (drop 1 us)) (λ b vs. got (compare_tree a (sign_of (first_token us)) b) vs)) (λ us. got a us)
      (local_then take_one (λ t us. then_read (sum_in i us) (λ b vs. got (compare_tree a (sign_of t) b) vs)) local_one (λ t. local_map (compare_tree a (sign_of t)) (sum_in i) sum_local))
      (local_got a))

  pub not_local : Local (not_in i)
  unfolding not_in
  not_local = local_cond is_not i.not_from (compare_in i) loc.not_from compare_local

  pub and_local : Local (and_in i)
  unfolding and_in
  and_local = chain_local and_chain (not_in i) not_local

  or_local : Local (or_in i)
  unfolding or_in
  or_local = chain_local or_chain (and_in i) and_local

closed_local : (e : FilterTree) → Local (close_read e)
closed_local e = local_cond is_close_paren (λ us. got e (drop 1 us)) (λ us. failed (Bad (place us)) us) (local_after e) local_bad

ended_local : (e : FilterTree) → Local (end_read e)
ended_local e = local_cond is_end (λ us. got e us) (λ us. failed (Bad (place us)) us) (local_got e) local_bad

pub within_local : (n : ℕ) → LocalIn (within_depth n)
unfolding within_depth take_one
within_local zero = record { not_from = local_fail TooDeep (λ ts. refl); minus_from = local_fail TooDeep (λ ts. refl); open_from = local_fail TooDeep (λ ts. refl) }
within_local (suc n) = record {
  not_from = local_then take_one (λ _ us. then_read (not_in (within_depth n) us) got_not) local_one
      (λ _. local_then (not_in (within_depth n)) got_not (not_local (within_depth n) (within_local n)) (λ e. local_got (not_tree e)));
  minus_from = local_then take_one (λ _ us. then_read (unary_in (within_depth n) us) got_negative) local_one
      (λ _. local_then (unary_in (within_depth n)) got_negative (unary_local (within_depth n) (within_local n)) (λ e. local_got (negate_tree e)));
  open_from = local_then take_one (λ _ us. then_read (or_in (within_depth n) us) close_read) local_one
      (λ _. local_then (or_in (within_depth n)) close_read (or_local (within_depth n) (within_local n)) closed_local);
}

pub whole_local : Local whole_filter
unfolding whole_filter
whole_local = local_then (or_in (within_depth 64)) end_read (or_local (within_depth 64) (within_local 64)) ended_local
