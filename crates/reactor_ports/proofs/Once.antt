-- A connection stands once in an outbox.
use Rattle.std.proofs.Common.{◌≡◌, ◌==◌, ℕ, Bool, true, false, List, [], ◌∷◌, ◌++◌, Option, Some, None, refl, ap, cond, arith, tests}
use Rattle.std.proofs.lemmas.Bool.Decides.{nat_tests}
use Rattle.std.specs.Option.{is_some}
use Rattle.reactor_ports.specs.Boxes.{rest_at, put_rest, without, StandsOnce}

-- where the head is not the one that is looked for, all depends on the others
head_none : (b : Bool) (v w : List ℕ) (x y : Option (List ℕ)) → (x ≡ None → y ≡ None) → cond b (Some v) x ≡ None → cond b (Some w) y ≡ None
head_none true v w x y f h = search (tests, ap is_some h)
head_none false v w x y f h = f h

tail_none : (b : Bool) (v : List ℕ) (x : Option (List ℕ)) → cond b (Some v) x ≡ None → x ≡ None
tail_none true v x h = search (tests, ap is_some h)
tail_none false v x h = h

not_head : (b : Bool) (v : List ℕ) (x : Option (List ℕ)) → cond b (Some v) x ≡ None → b ≡ false
not_head true v x h = search (tests, ap is_some h)
not_head false v x h = refl

none_put_by : (p : ℕ × List ℕ) (ps : List (ℕ × List ℕ)) (c : ℕ) (r : List ℕ) (d : ℕ) → (rest_at ps d ≡ None → rest_at (put_rest ps c r) d ≡ None)
    → cond (p.0 == d) (Some p.1) (rest_at ps d) ≡ None → (b : Bool) → rest_at (cond b ((p.0, r) ∷ ps) (p ∷ put_rest ps c r)) d ≡ None
none_put_by p ps c r d f h true = head_none (p.0 == d) p.1 r (rest_at ps d) (rest_at ps d) (λ e. e) h
none_put_by p ps c r d f h false = head_none (p.0 == d) p.1 p.1 (rest_at ps d) (rest_at (put_rest ps c r) d) f h

none_put : (ps : List (ℕ × List ℕ)) (c : ℕ) (r : List ℕ) (d : ℕ) → rest_at ps d ≡ None → rest_at (put_rest ps c r) d ≡ None
none_put [] c r d h = h
none_put (p ∷ ps) c r d h = none_put_by p ps c r d (none_put ps c r d) h (p.0 == c)

none_without_by : (p : ℕ × List ℕ) (ps : List (ℕ × List ℕ)) (c d : ℕ) → (rest_at ps d ≡ None → rest_at (without ps c) d ≡ None)
    → cond (p.0 == d) (Some p.1) (rest_at ps d) ≡ None → (b : Bool) → rest_at (cond b ps (p ∷ without ps c)) d ≡ None
none_without_by p ps c d f h true = tail_none (p.0 == d) p.1 (rest_at ps d) h
none_without_by p ps c d f h false = head_none (p.0 == d) p.1 p.1 (rest_at ps d) (rest_at (without ps c) d) f h

none_without : (ps : List (ℕ × List ℕ)) (c d : ℕ) → rest_at ps d ≡ None → rest_at (without ps c) d ≡ None
none_without [] c d h = h
none_without (p ∷ ps) c d h = none_without_by p ps c d (none_without ps c d) h (p.0 == c)

none_added : (ps : List (ℕ × List ℕ)) (c d : ℕ) → (c == d) ≡ false → rest_at ps d ≡ None → rest_at (ps ++ (c, []) ∷ []) d ≡ None
none_added [] c d e h = ap (λ b. cond b (Some []) None) e
none_added (p ∷ ps) c d e h = head_none (p.0 == d) p.1 p.1 (rest_at ps d) (rest_at (ps ++ (c, []) ∷ []) d) (none_added ps c d e) h

once_put_by : (p : ℕ × List ℕ) (ps : List (ℕ × List ℕ)) (c : ℕ) (r : List ℕ) → StandsOnce (p ∷ ps) → StandsOnce (put_rest ps c r)
    → (b : Bool) → StandsOnce (cond b ((p.0, r) ∷ ps) (p ∷ put_rest ps c r))
once_put_by p ps c r h k true = h
once_put_by p ps c r h k false = (none_put ps c r p.0 h.0, k)

pub once_put : (box : List (ℕ × List ℕ)) (c : ℕ) (r : List ℕ) → StandsOnce box → StandsOnce (put_rest box c r)
once_put [] c r h = tt
once_put (p ∷ ps) c r h = once_put_by p ps c r h (once_put ps c r h.1) (p.0 == c)

once_without_by : (p : ℕ × List ℕ) (ps : List (ℕ × List ℕ)) (c : ℕ) → StandsOnce (p ∷ ps) → StandsOnce (without ps c)
    → (b : Bool) → StandsOnce (cond b ps (p ∷ without ps c))
once_without_by p ps c h k true = h.1
once_without_by p ps c h k false = (none_without ps c p.0 h.0, k)

pub once_without : (box : List (ℕ × List ℕ)) (c : ℕ) → StandsOnce box → StandsOnce (without box c)
once_without [] c h = tt
once_without (p ∷ ps) c h = once_without_by p ps c h (once_without ps c h.1) (p.0 == c)

pub once_added : (box : List (ℕ × List ℕ)) (c : ℕ) → StandsOnce box → rest_at box c ≡ None → StandsOnce (box ++ (c, []) ∷ [])
once_added [] c h e = (refl, tt)
once_added (p ∷ ps) c h e =
    let other = not_head (p.0 == c) p.1 (rest_at ps c) e in
    (none_added ps c p.0 (grind (arith, nat_tests, other)) h.0, once_added ps c h.1 (tail_none (p.0 == c) p.1 (rest_at ps c) e))
