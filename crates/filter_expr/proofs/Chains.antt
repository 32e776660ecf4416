-- Laws of the reader's chains: how many turns are left does not matter, and what one turn does.
use Rattle.std.proofs.Common.{◌≡◌, ℕ, zero, suc, ◌≤◌, List, [], ◌∷◌, ◌++◌, length, drop, Bool, true, false, if◌then◌else◌, refl, sym, ◌∙◌, ap, arith, append_assoc, append-nil}
use Rattle.filter_expr.specs.declared.tokens.PlacedToken.{PlacedToken}
use Rattle.filter_expr.specs.declared.faults.FilterFault.{FilterFault}
use Rattle.filter_expr.specs.declared.tokens.Token.{Token}
use Rattle.plain_filters.specs.Filters.{FilterTree}
use Rattle.filter_expr.specs.Signs.{Kind, joins}
use Rattle.filter_expr.specs.Reading.{Part, Step, got, failed, Reader, then_read, starts, first_token, with_front, turns, later, chain_after, chain_of}

abbrev pub rest_of : {A : Type 0} → Step A → List PlacedToken
rest_of (got x ts) = ts
rest_of (failed f ts) = ts

pub wrong : false ≡ true → ⊥
wrong e = grind arith

-- no more tokens are left than were given
pub record Shortens {A : Type 0} (part : Reader A) : Type 0 where
  pub fewer : (ts : List PlacedToken) → length (rest_of (part ts)) ≤ length ts

pub turns_end : (k : Kind) (part : Reader FilterTree) (n : ℕ) → turns k part n [] ≡ got [] []
unfolding turns
turns_end k part zero = refl
turns_end k part (suc n) = refl

-- enough turns are as good as more
pub same_turns : (k : Kind) (part : Reader FilterTree) → Shortens part → (m n : ℕ) (ts : List PlacedToken) → length ts ≤ m → length ts ≤ n → turns k part m ts ≡ turns k part n ts
unfolding turns
same_turns k part short m n [] _ _ = turns_end k part m ∙ sym (turns_end k part n)
same_turns k part short zero n (s ∷ ts) h g = absurd (omega arith)
same_turns k part short (suc m) zero (s ∷ ts) h g = absurd (omega arith)
same_turns k part short (suc m) (suc n) (s ∷ ts) h g = by (λ us l. same_turns k part short m n us (omega arith) (omega arith)) (joins k s.token)
  where
    step : ((us : List PlacedToken) → length us ≤ length ts → turns k part m us ≡ turns k part n us) → (r : Step FilterTree) → length (rest_of r) ≤ length ts →
        then_read r (λ e us. with_front ((s.token, e) ∷ []) (turns k part m us)) ≡ then_read r (λ e us. with_front ((s.token, e) ∷ []) (turns k part n us))
    step ih (got e us) l = ap (with_front ((s.token, e) ∷ [])) (ih us l)
    step ih (failed f us) l = refl

    by : ((us : List PlacedToken) → length us ≤ length ts → turns k part m us ≡ turns k part n us) → (b : Bool) →
        (if b then then_read (part ts) (λ e us. with_front ((s.token, e) ∷ []) (turns k part m us)) else got [] (s ∷ ts))
        ≡ (if b then then_read (part ts) (λ e us. with_front ((s.token, e) ∷ []) (turns k part n us)) else got [] (s ∷ ts))
    by ih true = step ih (part ts) (short.fewer ts)
    by ih false = refl

pub later-stop : (k : Kind) (part : Reader FilterTree) (ts : List PlacedToken) → starts (joins k) ts ≡ false → later k part ts ≡ got [] ts
unfolding turns later
later-stop k part [] h = refl
later-stop k part (s ∷ ts) h = ap (λ b. if b then then_read (part ts) (λ e us. with_front ((s.token, e) ∷ []) (turns k part (length ts) us)) else got [] (s ∷ ts)) h

pub later-more : (k : Kind) (part : Reader FilterTree) (ts : List PlacedToken) → Shortens part → starts (joins k) ts ≡ true →
    later k part ts ≡ then_read (part (drop 1 ts)) (λ e us. with_front ((first_token ts, e) ∷ []) (later k part us))
unfolding turns later
later-more k part [] short h = absurd (wrong h)
later-more k part (s ∷ ts) short h = from_later
  where
    go : (r : Step FilterTree) → length (rest_of r) ≤ length ts →
        then_read r (λ e us. with_front ((s.token, e) ∷ []) (turns k part (length ts) us)) ≡ then_read r (λ e us. with_front ((s.token, e) ∷ []) (later k part us))
    go (got e us) l = ap (with_front ((s.token, e) ∷ [])) (same_turns k part short (length ts) (length us) us l (omega arith))
    go (failed f us) l = refl

    from_later : later k part (s ∷ ts) ≡ then_read (part ts) (λ e us. with_front ((s.token, e) ∷ []) (later k part us))
    from_later = ap (λ b. if b then then_read (part ts) (λ e us. with_front ((s.token, e) ∷ []) (turns k part (length ts) us)) else got [] (s ∷ ts)) h ∙ go (part ts) (short.fewer ts)

pub front_twice : (xs ys : List Part) (r : Step (List Part)) → with_front xs (with_front ys r) ≡ with_front (xs ++ ys) r
front_twice xs ys (got later ts) = ap (λ l. got l ts) (sym (append_assoc xs ys later))
front_twice xs ys (failed f ts) = refl

-- ---- the turns of a loop that collects the later parts

module _ (k : Kind) (part : Reader FilterTree) (short : Shortens part) (front : List Part) (ts : List PlacedToken) (from : Step (List Part)) (read : with_front front (later k part ts) ≡ from) where
  -- one more part
  pub loop_goes : (t : Token) (e : FilterTree) (us : List PlacedToken) → starts (joins k) ts ≡ true → first_token ts ≡ t → part (drop 1 ts) ≡ got e us →
      with_front (front ++ (t, e) ∷ []) (later k part us) ≡ from
  loop_goes t e us next sign here =
      sym (front_twice front ((t, e) ∷ []) (later k part us))
      ∙ ap (λ x. with_front front (with_front ((x, e) ∷ []) (later k part us))) (sym sign)
      ∙ ap (λ r. with_front front (then_read r (λ d vs. with_front ((first_token ts, d) ∷ []) (later k part vs)))) (sym here)
      ∙ ap (with_front front) (sym (later-more k part ts short next)) ∙ read

  -- a part goes wrong
  pub loop_fails : (f : FilterFault) (us : List PlacedToken) → starts (joins k) ts ≡ true → part (drop 1 ts) ≡ failed f us → from ≡ failed f us
  loop_fails f us next here =
      sym read ∙ ap (with_front front) (later-more k part ts short next)
      ∙ ap (λ r. with_front front (then_read r (λ d vs. with_front ((first_token ts, d) ∷ []) (later k part vs)))) here

  -- no further part
  pub loop_ends : starts (joins k) ts ≡ false → from ≡ got front ts
  loop_ends stop = sym read ∙ ap (with_front front) (later-stop k part ts stop) ∙ ap (λ l. got l ts) (append-nil front)

-- the chain by what its first part and its later ones are read as
pub chain_fails : (k : Kind) (part : Reader FilterTree) (ts us : List PlacedToken) (f : FilterFault) → part ts ≡ failed f us → chain_of k part ts ≡ failed f us
unfolding chain_of
chain_fails k part ts us f first = ap (λ r. then_read r (λ e vs. chain_after k e (later k part vs))) first

pub chain_reads : (k : Kind) (part : Reader FilterTree) (ts us : List PlacedToken) (e : FilterTree) (r : Step (List Part)) → part ts ≡ got e us → later k part us ≡ r →
    chain_of k part ts ≡ chain_after k e r
unfolding chain_of
chain_reads k part ts us e r first more = ap (λ s. then_read s (λ d vs. chain_after k d (later k part vs))) first ∙ ap (chain_after k e) more
