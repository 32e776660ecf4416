-- Histories in the two orders, and what one seat's entries are in them.
use Rattle.std.proofs.Common.{◌≡◌, ℕ, Bool, true, false, ◌&&◌, ◌||◌, cond, ◌==◌, List, [], ◌∷◌, ◌++◌, reverse, filter, refl, sym, ap, ◌∙◌}
use Rattle.std.specs.List.{list_any}
use Rattle.std.proofs.lemmas.List.{reverse-append, append-nil}
use Rattle.std.proofs.lemmas.List.Elements.{filter-append}
use Rattle.farm_history.specs.Entries.{Entry}
use Rattle.turn_cell.specs.Turns.{by}
use Rattle.farm_shared.specs.Seats.{plain, ends_ticket, is_ended_by}
use Rattle.farm_shared.specs.Promises.{own_of}

-- one turn more
pub reverse_more : {X : Type 0} (log : List X) (x : X) → reverse (log ++ x ∷ []) ≡ x ∷ reverse log
reverse_more log x = reverse-append log (x ∷ [])

reverse_cons : {X : Type 0} (x : X) (xs : List X) → reverse (x ∷ xs) ≡ reverse xs ++ x ∷ []
reverse_cons x xs = reverse-append (x ∷ []) xs

pub filter_reverse : {X : Type 0} (q : X → Bool) (xs : List X) → filter q (reverse xs) ≡ reverse (filter q xs)
filter_reverse q [] = refl
filter_reverse {X} q (x ∷ xs) = ap (filter q) (reverse_cons x xs) ∙ (filter-append q (reverse xs) (x ∷ []) ∙ go (q x) (filter_reverse q xs))
  where
    go : (b : Bool) → filter q (reverse xs) ≡ reverse (filter q xs) → filter q (reverse xs) ++ cond b (x ∷ []) [] ≡ reverse (cond b (x ∷ filter q xs) (filter q xs))
    go true ih = ap (λ l. l ++ x ∷ []) ih ∙ sym (reverse_cons x (filter q xs))
    go false ih = append-nil (filter q (reverse xs)) ∙ ih

-- the entries of one seat, in either order
pub own_filter : (n : ℕ) (xs : List (ℕ × Entry)) → own_of n xs ≡ plain (by n xs)
own_filter n [] = refl
own_filter n (x ∷ xs) = go (x.0 == n) (own_filter n xs)
  where
    go : (b : Bool) → own_of n xs ≡ plain (by n xs) → cond b (x.1 ∷ own_of n xs) (own_of n xs) ≡ plain (cond b (x ∷ by n xs) (by n xs))
    go true ih = ap (λ l. x.1 ∷ l) ih
    go false ih = ih

pub own_by : (n : ℕ) (log : List (ℕ × Entry)) → own_of n (reverse log) ≡ plain (reverse (by n log))
own_by n log = own_filter n (reverse log) ∙ ap plain (filter_reverse (λ x. x.0 == n) log)

-- whether a seat has a Finish of a ticket depends on its own entries alone
any_filter : {X : Type 0} (q r : X → Bool) (xs : List X) → list_any (λ x. q x && r x) xs ≡ list_any r (filter q xs)
any_filter q r [] = refl
any_filter {X} q r (x ∷ xs) = go (q x) (any_filter q r xs)
  where
    go : (b : Bool) → list_any (λ y. q y && r y) xs ≡ list_any r (filter q xs) → (b && r x) || list_any (λ y. q y && r y) xs ≡ list_any r (cond b (x ∷ filter q xs) (filter q xs))
    go true ih = ap (λ rest. r x || rest) ih
    go false ih = ih

pub ended_by : (n t : ℕ) (log : List (ℕ × Entry)) → is_ended_by n t (reverse log) ≡ list_any (λ x. ends_ticket x.1 t) (reverse (by n log))
ended_by n t log = any_filter (λ x. x.0 == n) (λ x. ends_ticket x.1 t) (reverse log) ∙ ap (list_any (λ x. ends_ticket x.1 t)) (filter_reverse (λ x. x.0 == n) log)
