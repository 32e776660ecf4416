-- The first seat after all others were joined into it, and what it knows of each of them.
use Rattle.std.proofs.Common.{◌≡◌, ℕ, zero, suc, ◌+◌, Bool, true, false, ◌||◌, List, [], ◌∷◌, ◌++◌, length, slice_get, Option, Some, None, refl, sym, ap, ◌∙◌, subst, arith, append_assoc, append-nil, length-append}
use Rattle.std.specs.List.{list_any}
use Rattle.std.proofs.lemmas.Bool.{or_right}
use Rattle.farm_history.specs.Entries.{Entry}
use Rattle.farm_history.specs.Lists.{Each}
use Rattle.turn_cell.specs.Turns.{by, HasJoined}
use Rattle.turn_cell.specs.SeatStates.{Made, SeatState}
use Rattle.render_workers.specs.declared.worker.WorkEnd.{WorkEnd}
use Rattle.farm_runs.specs.declared.pool.Actor.{Actor}
use Rattle.farm_runs.specs.Promise.{is_worker_worn}
use Rattle.farm_runs.specs.inner.Chain.{first_seat_after, notes, Numbered, ends_in, IsSpent}

-- of each joined number the history has just its entries
pub each_joined : (joined : List (ℕ × List (ℕ × Entry))) (log : List (ℕ × Entry)) → HasJoined joined log → Each (λ p. by p.0 log ≡ p.1) joined
each_joined [] log has = tt
each_joined (p ∷ joined) log has = (has 0 p refl, each_joined joined log (λ k q is. has (suc k) q is))

pub each_left : {X : Type 0} (P : X → Type 0) (xs ys : List X) → Each P (xs ++ ys) → Each P xs
each_left P [] ys each = tt
each_left P (x ∷ xs) ys each = (each.0, each_left P xs ys each.1)

pub each_right : {X : Type 0} (P : X → Type 0) (xs ys : List X) → Each P (xs ++ ys) → Each P ys
each_right P [] ys each = each
each_right P (x ∷ xs) ys each = each_right P xs ys each.1

ended_worn : (end : Option WorkEnd) → is_worker_worn end ≡ true → end ≡ Some WorkEnd.Worn
ended_worn (Some WorkEnd.Worn) is = refl
ended_worn (Some WorkEnd.Stopped) is = cc
ended_worn None is = cc

module _ {T : Type 0} where
  pub gathered_number : (v : SeatState T Entry) (pool : List (Actor (SeatState T Entry))) → (first_seat_after v pool).number ≡ v.number
  gathered_number v [] = refl
  gathered_number v (a ∷ rest) = gathered_number v rest

  pub gathered_mine : (v : SeatState T Entry) (pool : List (Actor (SeatState T Entry))) → (first_seat_after v pool).mine ≡ v.mine
  gathered_mine v [] = refl
  gathered_mine v (a ∷ rest) = gathered_mine v rest

  pub gathered_first : (v : SeatState T Entry) (pool : List (Actor (SeatState T Entry))) → (first_seat_after v pool).first ≡ v.first
  gathered_first v [] = refl
  gathered_first v (a ∷ rest) = gathered_first v rest

  pub gathered_splits : (v : SeatState T Entry) (pool : List (Actor (SeatState T Entry))) → (first_seat_after v pool).splits ≡ v.splits
  gathered_splits v [] = refl
  gathered_splits v (a ∷ rest) = gathered_splits v rest

  pub gathered_joined : (v : SeatState T Entry) (pool : List (Actor (SeatState T Entry))) → (first_seat_after v pool).joined ≡ v.joined ++ notes pool
  gathered_joined v [] = sym (append-nil v.joined)
  gathered_joined v (a ∷ rest) = ap (λ l. l ++ (a.seat.number, a.seat.mine) ∷ []) (gathered_joined v rest) ∙ append_assoc v.joined (notes rest) ((a.seat.number, a.seat.mine) ∷ [])

  pub notes_length : (pool : List (Actor (SeatState T Entry))) → length (notes pool) ≡ length pool
  notes_length [] = refl
  notes_length (a ∷ rest) = let long = length-append (notes rest) ((a.seat.number, a.seat.mine) ∷ []) in let ih = notes_length rest in omega arith

  -- marks are passed on
  pub gathered_mark : (v : SeatState T Entry) (pool : List (Actor (SeatState T Entry))) → v.worn ≡ true → (first_seat_after v pool).worn ≡ true
  gathered_mark v [] mark = mark
  gathered_mark v (a ∷ rest) mark = ap (λ b. b || a.seat.worn) (gathered_mark v rest mark)

  pub pool_mark : (made : Made T) (v : SeatState T Entry) (pool : List (Actor (SeatState T Entry))) → Each (IsSpent made) pool → list_any is_worker_worn (ends_in pool) ≡ true → (first_seat_after v pool).worn ≡ true
  pool_mark made v [] each any = cc
  pool_mark made v (a ∷ rest) each any = go (is_worker_worn a.end) refl (pool_mark made v rest each.1) any
    where
      go : (b : Bool) → is_worker_worn a.end ≡ b → (list_any is_worker_worn (ends_in rest) ≡ true → (first_seat_after v rest).worn ≡ true) → (b || list_any is_worker_worn (ends_in rest)) ≡ true → ((first_seat_after v rest).worn || a.seat.worn) ≡ true
      go true is ih any = or_right (first_seat_after v rest).worn a.seat.worn (each.0.worn (ended_worn a.end is))
      go false is ih any = ap (λ b. b || a.seat.worn) (ih any)

  -- what is noted of each worker is so of it
  pub each_noted : (log : List (ℕ × Entry)) (pool : List (Actor (SeatState T Entry))) → Each (λ p. by p.0 log ≡ p.1) (notes pool) → Each (λ a. by a.seat.number log ≡ a.seat.mine) pool
  each_noted log [] each = tt
  each_noted log (a ∷ rest) each =
      ((each_right _ (notes rest) ((a.seat.number, a.seat.mine) ∷ []) each).0, each_noted log rest (each_left _ (notes rest) ((a.seat.number, a.seat.mine) ∷ []) each))

  -- the worker at a place
  pub record IsAt (Q : Actor (SeatState T Entry) → Type 0) (w : ℕ) (end : Option WorkEnd) : Type 0 where
    pub actor : Actor (SeatState T Entry)
    pub worker : actor.worker ≡ w
    pub number : actor.seat.number ≡ w + 4
    pub end_is : actor.end ≡ end
    pub holds : Q actor

  pub at_place : (Q : Actor (SeatState T Entry) → Type 0) (k w : ℕ) (end : Option WorkEnd) (pool : List (Actor (SeatState T Entry))) → Numbered k pool → Each Q pool → slice_get (ends_in pool) w ≡ Some end → IsAt Q (k + w) end
  at_place Q k w end [] numbered each is = cc
  at_place Q k zero end (a ∷ rest) numbered each is = record {
    actor = a;
    worker = numbered.0 ∙ omega arith;
    number = numbered.1 ∙ omega arith;
    end_is = cc;
    holds = each.0;
  }
  at_place Q k (suc w) end (a ∷ rest) numbered each is = subst (λ n. IsAt Q n end) (let e : (k + 1) + w ≡ k + suc w = omega arith in e) (at_place Q (k + 1) w end rest numbered.2 each.1 is)
