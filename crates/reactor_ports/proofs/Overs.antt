-- Steps that are passed over.
use Rattle.std.proofs.Common.{◌≡◌, ◌<◌, ◌+◌, ◌&&◌, ◌||◌, ℕ, Bool, true, false, List, [], ◌∷◌, ◌++◌, length, drop, get_or, set, zero, suc, refl, ap, sym, ◌∙◌, subst, append_assoc, add-one}
use Rattle.std.proofs.lemmas.List.{drop_more}
use Rattle.std.proofs.lemmas.List.Folds.{list_all-append, list_any-append}
use Rattle.std.specs.List.{list_all, list_any}
use Rattle.std.proofs.lemmas.Bool.{and_from, and_parts}
use Rattle.reactor_ports.specs.declared.port_steps.PortStep.{PortStep}
use Rattle.reactor_ports.specs.declared.port_steps.PortStep.TheVariants as step
use Rattle.reactor_ports.specs.Held.{PeerHeld}
use Rattle.reactor_ports.specs.Playing.{is_passable, Passed}
use Rattle.reactor_ports.specs.Scripts.{is_await, has_piece, is_valid, is_piece, is_alive_in}

or_right : (a b : Bool) → (a || (b || false)) ≡ (a || b)
or_right true b = refl
or_right false true = refl
or_right false false = refl

-- one more step is passed over
pub passed_more : (peers : List PeerHeld) (old new : List PortStep) (s : PortStep) (reached : Bool)
    → Passed peers old (s ∷ new) reached → is_passable peers s ≡ true → Passed peers old new (reached || is_await s)
passed_more peers old new s reached p pass = record {
  skipped = p.skipped ++ s ∷ [];
  split = p.split ∙ sym (append_assoc p.skipped (s ∷ []) new);
  passable = list_all-append (is_passable peers) p.skipped (s ∷ [])
      ∙ and_from (list_all (is_passable peers) p.skipped) (is_passable peers s && true) p.passable (and_from (is_passable peers s) true pass refl);
  reached_is = ap (λ b. b || is_await s) p.reached_is
      ∙ sym (or_right (list_any is_await p.skipped) (is_await s))
      ∙ sym (list_any-append is_await p.skipped (s ∷ []));
}

-- one more step of a list is passed over
pub passes_on : (peers : List PeerHeld) (steps : List PortStep) (from i : ℕ) (s : PortStep) (reached reaches : Bool)
    → i < length steps → s ≡ get_or steps i s → Passed peers (drop from steps) (drop i steps) reached
    → (is_await s ≡ reaches) × (is_passable peers s ≡ true) → Passed peers (drop from steps) (drop (i + 1) steps) (reached || reaches)
passes_on peers steps from i s reached reaches small is p h =
    subst (λ b. Passed peers (drop from steps) (drop (i + 1) steps) (reached || b)) h.0
    (passed_more peers (drop from steps) (drop (i + 1) steps) s reached
    (subst (λ l. Passed peers (drop from steps) l reached) (drop_more steps i s small ∙ ap (λ x. x ∷ drop (i + 1) steps) (sym is)) p)
    h.1)

all_dropped_suc : {X : Type 0} (p : X → Bool) (xs : List X) (i : ℕ) → list_all p (drop i xs) ≡ true → list_all p (drop (suc i) xs) ≡ true
all_dropped_suc p [] i h = refl
all_dropped_suc p (x ∷ xs) zero h = (and_parts (p x) (list_all p xs) h).1
all_dropped_suc p (x ∷ xs) (suc i) h = all_dropped_suc p xs i h

-- what holds of all that is left holds after one more
pub all_dropped : {X : Type 0} (p : X → Bool) (xs : List X) (i : ℕ) → list_all p (drop i xs) ≡ true → list_all p (drop (i + 1) xs) ≡ true
all_dropped p xs i h = subst (λ n. list_all p (drop n xs) ≡ true) (sym (add-one i)) (all_dropped_suc p xs i h)

dropped_suc : {X : Type 0} (xs : List X) (i : ℕ) → drop (suc i) xs ≡ drop 1 (drop i xs)
dropped_suc [] zero = refl
dropped_suc [] (suc i) = refl
dropped_suc (x ∷ xs) zero = refl
dropped_suc (x ∷ xs) (suc i) = dropped_suc xs i

pub dropped : {X : Type 0} (xs : List X) (i : ℕ) → drop (i + 1) xs ≡ drop 1 (drop i xs)
dropped xs i = ap (λ n. drop n xs) (add-one i) ∙ dropped_suc xs i

-- the pieces of a script that is in order
pub valid_pieces : (alive : List Bool) (ss : List PortStep) → is_valid alive ss ≡ true → list_all has_piece ss ≡ true
valid_pieces alive [] h = refl
valid_pieces alive (step.Open ∷ ss) h = valid_pieces (alive ++ true ∷ []) ss h
valid_pieces alive (step.Bytes c piece ∷ ss) h =
    let k = (and_parts (is_alive_in alive c) (is_piece piece && is_valid alive ss) h).1 in
    and_from (is_piece piece) (list_all has_piece ss) (and_parts (is_piece piece) (is_valid alive ss) k).0
    (valid_pieces alive ss (and_parts (is_piece piece) (is_valid alive ss) k).1)
valid_pieces alive (step.End c ∷ ss) h = valid_pieces (set alive c false) ss (and_parts (is_alive_in alive c) (is_valid (set alive c false) ss) h).1
valid_pieces alive (step.Lose c ∷ ss) h = valid_pieces (set alive c false) ss (and_parts (is_alive_in alive c) (is_valid (set alive c false) ss) h).1
valid_pieces alive (step.Await front n ∷ ss) h = valid_pieces alive ss h
valid_pieces alive (step.Break ∷ ss) h = valid_pieces alive ss h
