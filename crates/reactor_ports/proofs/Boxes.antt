-- Where a connection stands in an outbox.
use Rattle.std.proofs.Common.{Option, ◌≡◌, ◌<◌, ◌+◌, ◌==◌, ℕ, Bool, true, false, List, [], ◌∷◌, ◌++◌, length, take, drop, get_or, Some, None, refl, ap, sym, ◌∙◌, zero, suc, cond, nat_lt, rules, tests, arith}
use Rattle.std.specs.List.{position, position_or_len}
use Rattle.std.specs.Option.{is_some}
use Rattle.std.proofs.lemmas.Bool.Decides.{nat_tests}
use Rattle.std.proofs.lemmas.List.Recursion.{is_position_or_len}
use Rattle.std.proofs.Math.Nat.{suc-add}
use Rattle.reactor_ports.specs.Boxes.{rest_at, put_rest, without}
use Rattle.reactor_ports.specs.inner.Places.{Here}

abbrev pub is_of : ℕ → ℕ × List ℕ → Bool
is_of c p = p.0 == c

-- at the head
here_zero : (p : ℕ × List ℕ) (ps : List (ℕ × List ℕ)) (c : ℕ) → is_of c p ≡ true → Here (p ∷ ps) c 0
here_zero p ps c h = record {
  small = search (arith, rules);
  rest = λ d. ap (λ b. cond b (Some p.1) (rest_at ps c)) h;
  writes = λ d r. sym (ap (λ b. cond b ((p.0, r) ∷ ps) (p ∷ put_rest ps c r)) h);
  removes = sym (ap (λ b. cond b ps (p ∷ without ps c)) h);
}

-- behind another
here_suc : (p : ℕ × List ℕ) (ps : List (ℕ × List ℕ)) (c i : ℕ) → is_of c p ≡ false → Here ps c i → Here (p ∷ ps) c (suc i)
here_suc p ps c i h at = record {
  small = omega (arith, at.small);
  rest = λ d. ap (λ b. cond b (Some p.1) (rest_at ps c)) h ∙ at.rest d;
  writes = λ d r. ap (λ xs. p ∷ xs) (at.writes d r) ∙ sym (ap (λ b. cond b ((p.0, r) ∷ ps) (p ∷ put_rest ps c r)) h);
  removes = ap (λ n. take (suc i) (p ∷ ps) ++ drop n (p ∷ ps)) (suc-add i 1) ∙ ap (λ xs. p ∷ xs) at.removes ∙ sym (ap (λ b. cond b ps (p ∷ without ps c)) h);
}

pub here : (box : List (ℕ × List ℕ)) (c i : ℕ) (d : ℕ × List ℕ) → i < length box → is_of c (get_or box i d) ≡ true → ((k : ℕ) → k < i → is_of c (get_or box k d) ≡ false) → Here box c i
here [] c i d small at before = absurd (omega (arith, small))
here (p ∷ ps) c zero d small at before = here_zero p ps c at
here (p ∷ ps) c (suc i) d small at before =
    here_suc p ps c i (before 0 (omega arith)) (here ps c i d (omega (arith, small)) at (λ k low. before (suc k) (omega (arith, low))))

abbrev place : ℕ → List (ℕ × List ℕ) → ℕ
place c [] = 0
place c (p ∷ ps) = cond (is_of c p) 0 (1 + place c ps)

below : (m n : ℕ) → nat_lt (1 + m) (suc n) ≡ nat_lt m n
below m n = grind (arith, nat_tests)

known_cases : (n : ℕ) (b : Bool) → is_some (cond b (Some n) None) ≡ b
known_cases n true = refl
known_cases n false = refl

known : (n m : ℕ) → is_some (cond (nat_lt n m) (Some n) None) ≡ nat_lt n m
known n m = known_cases n (nat_lt n m)

found_cases : (p : ℕ × List ℕ) (ps : List (ℕ × List ℕ)) (c : ℕ) → nat_lt (place c ps) (length ps) ≡ is_some (rest_at ps c)
    → (b : Bool) → nat_lt (cond b 0 (1 + place c ps)) (length (p ∷ ps)) ≡ is_some (cond b (Some p.1) (rest_at ps c))
found_cases p ps c h true = grind (arith, nat_tests)
found_cases p ps c h false = below (place c ps) (length ps) ∙ h

place_found : (box : List (ℕ × List ℕ)) (c : ℕ) → nat_lt (place c box) (length box) ≡ is_some (rest_at box c)
place_found [] c = refl
place_found (p ∷ ps) c = found_cases p ps c (place_found ps c) (is_of c p)

-- a connection is there exactly where a pair of it is found
pub found : (box : List (ℕ × List ℕ)) (c : ℕ) → is_some (position (is_of c) box) ≡ is_some (rest_at box c)
found box c =
    known (position_or_len (is_of c) box) (length box)
    ∙ ap (λ n. nat_lt n (length box)) (sym (is_position_or_len (place c) (is_of c) refl (λ x xs. refl) box))
    ∙ place_found box c

-- a connection that is there has a place
pub placed : (box : List (ℕ × List ℕ)) (c : ℕ) (r : List ℕ) → rest_at box c ≡ Some r → position (is_of c) box ≡ None → ⊥
placed box c r e none = search (tests, sym (ap is_some none) ∙ found box c ∙ ap is_some e)

-- what is there has a rest
pub has_of : (o : Option (List ℕ)) → is_some o ≡ true → (r : List ℕ) × (o ≡ Some r)
has_of None h = search (tests, h)
has_of (Some r) h = (r, refl)

pub none_of : (o : Option (List ℕ)) → is_some o ≡ false → o ≡ None
none_of None h = refl
none_of (Some r) h = search (tests, h)
