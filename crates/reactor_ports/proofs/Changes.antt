-- One connection of a list changes, or all do.
use Rattle.std.proofs.Common.{◌≡◌, ◌<◌, ◌+◌, ◌==◌, ℕ, Bool, true, false, List, [], ◌∷◌, ◌++◌, length, map, take, drop, get_or, set, zero, suc, Option, Some, None, option_map, refl, ap, sym, ◌∙◌, cond, arith}
use Rattle.std.proofs.lemmas.Bool.Decides.{nat_tests}
use Rattle.std.specs.List.{slice_get}
use Rattle.std.proofs.lemmas.Bool.{ne_eqb}
use Rattle.std.proofs.Math.Nat.{suc-add}
use Rattle.reactor_ports.specs.Told.{put}
use Rattle.reactor_ports.specs.Held.{PeerHeld, change}
use Rattle.reactor_ports.specs.Playing.{fresh}

pub set_is_change : (f : PeerHeld → PeerHeld) (ps : List PeerHeld) (i : ℕ) (d y : PeerHeld) → i < length ps → y ≡ f (get_or ps i d) → set ps i y ≡ change f i ps
set_is_change f [] i d y small is = absurd (omega (arith, small))
set_is_change f (p ∷ ps) zero d y small is = ap (λ q. q ∷ ps) is
set_is_change f (p ∷ ps) (suc i) d y small is = ap (λ qs. p ∷ qs) (set_is_change f ps i d y (omega (arith, small)) is)

pub length-change : (f : PeerHeld → PeerHeld) (c : ℕ) (ps : List PeerHeld) → length (change f c ps) ≡ length ps
length-change f c [] = refl
length-change f zero (p ∷ ps) = refl
length-change f (suc c) (p ∷ ps) = ap suc (length-change f c ps)

-- one more of a list whose first i are mapped
pub map_more : (f : PeerHeld → PeerHeld) (ps : List PeerHeld) (i : ℕ) (d y : PeerHeld) → i < length ps → y ≡ f (get_or (map f (take i ps) ++ drop i ps) i d)
    → set (map f (take i ps) ++ drop i ps) i y ≡ map f (take (i + 1) ps) ++ drop (i + 1) ps
map_more f [] i d y small is = absurd (omega (arith, small))
map_more f (p ∷ ps) zero d y small is = ap (λ q. q ∷ ps) is
map_more f (p ∷ ps) (suc i) d y small is =
    ap (λ qs. f p ∷ qs) (map_more f ps i d y (omega (arith, small)) is)
    ∙ ap (λ n. map f (take n (p ∷ ps)) ++ drop n (p ∷ ps)) (sym (suc-add i 1))

-- the same of a list that is equal to it
pub maps_more : (f : PeerHeld → PeerHeld) (ps xs : List PeerHeld) (i : ℕ) (d y : PeerHeld) → xs ≡ map f (take i ps) ++ drop i ps → i < length ps → y ≡ f (get_or xs i d)
    → set xs i y ≡ map f (take (i + 1) ps) ++ drop (i + 1) ps
maps_more f ps xs i d y same small is =
    ap (λ l. set l i y) same ∙ map_more f ps i d y small (is ∙ ap (λ l. f (get_or l i d)) same)

eq_suc : (m n : ℕ) → (suc m == suc n) ≡ (m == n)
eq_suc m n = grind (arith, nat_tests)

module _ {A : Type 0} (g : Option PeerHeld → A) where
  none_put : (b : Bool) (x : A) → g None ≡ x → g None ≡ cond b x (g None)
  none_put true x h = h
  none_put false x h = refl

  -- what is seen of a connection that changes, by a table
  pub field_put : (f : PeerHeld → PeerHeld) (ps : List PeerHeld) (c : ℕ) (x : A) → g (option_map f (slice_get ps c)) ≡ x
      → (d : ℕ) → g (slice_get (change f c ps) d) ≡ put (λ e. g (slice_get ps e)) c x d
  field_put f [] c x h d = none_put (d == c) x h
  field_put f (p ∷ ps) zero x h zero = h
  field_put f (p ∷ ps) zero x h (suc d) = sym (ap (λ b. cond b x (g (slice_get ps d))) (ne_eqb (suc d) zero (λ e. omega (arith, e))))
  field_put f (p ∷ ps) (suc c) x h zero = sym (ap (λ b. cond b x (g (Some p))) (ne_eqb zero (suc c) (λ e. omega (arith, e))))
  field_put f (p ∷ ps) (suc c) x h (suc d) =
      field_put f ps c x h d ∙ sym (ap (λ b. cond b x (g (slice_get ps d))) (eq_suc d c))

  -- what does not change of it
  pub field_kept : (f : PeerHeld → PeerHeld) → ((p : PeerHeld) → g (Some (f p)) ≡ g (Some p)) → (ps : List PeerHeld) (c d : ℕ)
      → g (slice_get (change f c ps) d) ≡ g (slice_get ps d)
  field_kept f h [] c d = refl
  field_kept f h (p ∷ ps) zero zero = h p
  field_kept f h (p ∷ ps) zero (suc d) = refl
  field_kept f h (p ∷ ps) (suc c) zero = refl
  field_kept f h (p ∷ ps) (suc c) (suc d) = field_kept f h ps c d

  -- what is seen of a new connection
  pub field_added : (x : A) → g (Some fresh) ≡ x → (ps : List PeerHeld) (d : ℕ)
      → g (slice_get (ps ++ fresh ∷ []) d) ≡ put (λ e. g (slice_get ps e)) (length ps) x d
  field_added x h [] zero = h
  field_added x h [] (suc d) = sym (ap (λ b. cond b x (g None)) (ne_eqb (suc d) zero (λ e. omega (arith, e))))
  field_added x h (p ∷ ps) zero = sym (ap (λ b. cond b x (g (Some p))) (ne_eqb zero (suc (length ps)) (λ e. omega (arith, e))))
  field_added x h (p ∷ ps) (suc d) = field_added x h ps d ∙ sym (ap (λ b. cond b x (g (slice_get ps d))) (eq_suc d (length ps)))

  -- what does not change of any
  pub field_mapped : (f : PeerHeld → PeerHeld) → ((p : PeerHeld) → g (Some (f p)) ≡ g (Some p)) → (ps : List PeerHeld) (d : ℕ)
      → g (slice_get (map f ps) d) ≡ g (slice_get ps d)
  field_mapped f h [] d = refl
  field_mapped f h (p ∷ ps) zero = h p
  field_mapped f h (p ∷ ps) (suc d) = field_mapped f h ps d
