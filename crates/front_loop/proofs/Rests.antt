-- The rests of an outbox: one that changes, comes or goes, and the others.
use Rattle.std.proofs.Common.{◌≡◌, ◌==◌, ℕ, Bool, true, false, cond, List, [], ◌∷◌, ◌++◌, Option, Some, None, refl, sym, ap, ◌∙◌}
use Rattle.std.proofs.lemmas.Bool.{eqb-true}
use Rattle.reactor_ports.specs.Boxes.{rest_at, put_rest, without, HasRest}
use Rattle.front_loop.specs.Rounds.{has}
use Rattle.front_loop.specs.inner.Sessions.{keys}
use Rattle.front_loop.proofs.Tables.{other, same, remove}

both : (b : Bool) (x y : Option (List ℕ)) (v w : List ℕ) → b ≡ false → x ≡ y → cond b (Some v) x ≡ cond b (Some w) y
both b x y v w e h = ap (λ b. cond b (Some v) x) e ∙ h ∙ sym (ap (λ b. cond b (Some w) y) e)

other_put_by : (p : ℕ × List ℕ) (ps : List (ℕ × List ℕ)) (c : ℕ) (r : List ℕ) (d : ℕ) → (c ≡ d → ⊥) → rest_at (put_rest ps c r) d ≡ rest_at ps d
    → (b : Bool) → (p.0 == c) ≡ b → rest_at (cond b ((p.0, r) ∷ ps) (p ∷ put_rest ps c r)) d ≡ rest_at (p ∷ ps) d
other_put_by p ps c r d ne h true e = both (p.0 == d) (rest_at ps d) (rest_at ps d) r p.1 (other p.0 d (λ q. ne (sym (eqb-true p.0 c e) ∙ q))) refl
other_put_by p ps c r d ne h false e = ap (λ o. cond (p.0 == d) (Some p.1) o) h

pub other_put : (box : List (ℕ × List ℕ)) (c : ℕ) (r : List ℕ) (d : ℕ) → (c ≡ d → ⊥) → rest_at (put_rest box c r) d ≡ rest_at box d
other_put [] c r d ne = refl
other_put (p ∷ ps) c r d ne = other_put_by p ps c r d ne (other_put ps c r d ne) (p.0 == c) refl

at_put_by : (p : ℕ × List ℕ) (ps : List (ℕ × List ℕ)) (c : ℕ) (r v : List ℕ) → (rest_at ps c ≡ Some v → rest_at (put_rest ps c r) c ≡ Some r)
    → (b : Bool) → (p.0 == c) ≡ b → cond b (Some p.1) (rest_at ps c) ≡ Some v → rest_at (cond b ((p.0, r) ∷ ps) (p ∷ put_rest ps c r)) c ≡ Some r
at_put_by p ps c r v f true e h = ap (λ b. cond b (Some r) (rest_at ps c)) e
at_put_by p ps c r v f false e h = ap (λ b. cond b (Some p.1) (rest_at (put_rest ps c r) c)) e ∙ f h

put_at : (box : List (ℕ × List ℕ)) (c : ℕ) (r v : List ℕ) → rest_at box c ≡ Some v → rest_at (put_rest box c r) c ≡ Some r
put_at [] c r v h = cc
put_at (p ∷ ps) c r v h = at_put_by p ps c r v (put_at ps c r v) (p.0 == c) refl h

pub at_put : (box : List (ℕ × List ℕ)) (c : ℕ) (r : List ℕ) → HasRest box c → rest_at (put_rest box c r) c ≡ Some r
at_put box c r h = put_at box c r h.0 h.1

keys_put_by : (p : ℕ × List ℕ) (ps : List (ℕ × List ℕ)) (c : ℕ) (r : List ℕ) → keys (put_rest ps c r) ≡ keys ps
    → (b : Bool) → keys (cond b ((p.0, r) ∷ ps) (p ∷ put_rest ps c r)) ≡ keys (p ∷ ps)
keys_put_by p ps c r h true = refl
keys_put_by p ps c r h false = ap (λ ks. p.0 ∷ ks) h

pub keys_put : (box : List (ℕ × List ℕ)) (c : ℕ) (r : List ℕ) → keys (put_rest box c r) ≡ keys box
keys_put [] c r = refl
keys_put (p ∷ ps) c r = keys_put_by p ps c r (keys_put ps c r) (p.0 == c)

other_without_by : (p : ℕ × List ℕ) (ps : List (ℕ × List ℕ)) (c d : ℕ) → (c ≡ d → ⊥) → rest_at (without ps c) d ≡ rest_at ps d
    → (b : Bool) → (p.0 == c) ≡ b → rest_at (cond b ps (p ∷ without ps c)) d ≡ rest_at (p ∷ ps) d
other_without_by p ps c d ne h true e = sym (ap (λ b. cond b (Some p.1) (rest_at ps d)) (other p.0 d (λ q. ne (sym (eqb-true p.0 c e) ∙ q))))
other_without_by p ps c d ne h false e = ap (λ o. cond (p.0 == d) (Some p.1) o) h

pub other_without : (box : List (ℕ × List ℕ)) (c d : ℕ) → (c ≡ d → ⊥) → rest_at (without box c) d ≡ rest_at box d
other_without [] c d ne = refl
other_without (p ∷ ps) c d ne = other_without_by p ps c d ne (other_without ps c d ne) (p.0 == c) refl

keys_without_by : (p : ℕ × List ℕ) (ps : List (ℕ × List ℕ)) (c : ℕ) → keys (without ps c) ≡ remove (keys ps) c
    → (b : Bool) → keys (cond b ps (p ∷ without ps c)) ≡ cond b (keys ps) (p.0 ∷ remove (keys ps) c)
keys_without_by p ps c h true = refl
keys_without_by p ps c h false = ap (λ ks. p.0 ∷ ks) h

pub keys_without : (box : List (ℕ × List ℕ)) (c : ℕ) → keys (without box c) ≡ remove (keys box) c
keys_without [] c = refl
keys_without (p ∷ ps) c = keys_without_by p ps c (keys_without ps c) (p.0 == c)

pub keys_snoc : (box : List (ℕ × List ℕ)) (c : ℕ) → keys (box ++ (c, []) ∷ []) ≡ keys box ++ c ∷ []
keys_snoc [] c = refl
keys_snoc (p ∷ ps) c = ap (λ ks. p.0 ∷ ks) (keys_snoc ps c)

other_snoc : (box : List (ℕ × List ℕ)) (c d : ℕ) (v : List ℕ) → rest_at box d ≡ Some v → rest_at (box ++ (c, []) ∷ []) d ≡ Some v
other_snoc [] c d v h = cc
other_snoc (p ∷ ps) c d v h = by_test (p.0 == d) (other_snoc ps c d v) h
  where
    by_test : (b : Bool) → (rest_at ps d ≡ Some v → rest_at (ps ++ (c, []) ∷ []) d ≡ Some v)
        → cond b (Some p.1) (rest_at ps d) ≡ Some v → cond b (Some p.1) (rest_at (ps ++ (c, []) ∷ []) d) ≡ Some v
    by_test true f e = e
    by_test false f e = f e

pub kept_snoc : (box : List (ℕ × List ℕ)) (c d : ℕ) → HasRest box d → rest_at (box ++ (c, []) ∷ []) d ≡ rest_at box d
kept_snoc box c d h = other_snoc box c d h.0 h.1 ∙ sym h.1

pub at_snoc : (box : List (ℕ × List ℕ)) (c : ℕ) → rest_at box c ≡ None → rest_at (box ++ (c, []) ∷ []) c ≡ Some []
at_snoc [] c h = ap (λ b. cond b (Some []) None) (same c)
at_snoc (p ∷ ps) c h = by_test (p.0 == c) (at_snoc ps c) h
  where
    by_test : (b : Bool) → (rest_at ps c ≡ None → rest_at (ps ++ (c, []) ∷ []) c ≡ Some [])
        → cond b (Some p.1) (rest_at ps c) ≡ None → cond b (Some p.1) (rest_at (ps ++ (c, []) ∷ []) c) ≡ Some []
    by_test true f e = cc
    by_test false f e = f e

-- a rest is there exactly where its key is
pub none_keyed : (box : List (ℕ × List ℕ)) (c : ℕ) → has (keys box) c ≡ false → rest_at box c ≡ None
none_keyed [] c h = refl
none_keyed (p ∷ ps) c h = by_test (p.0 == c) (none_keyed ps c) h
  where
    by_test : (b : Bool) → (has (keys ps) c ≡ false → rest_at ps c ≡ None)
        → cond b true (has (keys ps) c) ≡ false → cond b (Some p.1) (rest_at ps c) ≡ None
    by_test true f e = cc
    by_test false f e = f e
