-- All sessions are woken, one after another.
use Rattle.std.proofs.Common.{◌≡◌, ◌<◌, ◌+◌, ℕ, zero, suc, List, [], ◌∷◌, ◌++◌, length, map, take, drop, set, get_or, refl, ap, ◌∙◌, arith, Option, add-one, sym}
use Rattle.std.specs.declared.vec.Vec.{Vec}
use Rattle.std.specs.Vec.{with_items}
use Rattle.std.proofs.lemmas.List.{with_items_is}
use Rattle.farm_history.specs.Entries.{Entry}
use Rattle.reactor_ports.specs.Told.{PortsTold}
use Rattle.front_loop.specs.declared.sessions.Session.{Session}
use Rattle.front_loop.specs.declared.sessions.SessionTable.{SessionTable}
use Rattle.front_loop.specs.inner.Sessions.{woken}
use Rattle.front_loop.specs.inner.Stands.{World}

module _ {T : Type 0} where
  -- so many are woken, and the others as they were
  abbrev pub woken_front : ℕ → List (Session T) → List (Session T)
  woken_front i ss = map woken (take i ss) ++ drop i ss

  woken_step : (ss : List (Session T)) (i : ℕ) (d : Session T) → i < length ss → set (woken_front i ss) i (woken (get_or (woken_front i ss) i d)) ≡ woken_front (suc i) ss
  woken_step [] i d h = absurd (omega (arith, h))
  woken_step (x ∷ xs) zero d h = refl
  woken_step (x ∷ xs) (suc i) d h = ap (λ ys. woken x ∷ ys) (woken_step xs i d (omega (arith, h)))

  pub woken_next : (ss : List (Session T)) (i : ℕ) (d : Session T) → i < length ss → set (woken_front i ss) i (woken (get_or (woken_front i ss) i d)) ≡ woken_front (i + 1) ss
  woken_next ss i d h = woken_step ss i d h ∙ ap (λ n. woken_front n ss) (sym (add-one i))

  pub woken_whole : (ss : List (Session T)) → woken_front (length ss) ss ≡ map woken ss
  woken_whole [] = refl
  woken_whole (x ∷ xs) = ap (λ ys. woken x ∷ ys) (woken_whole xs)

  length_woken : (ss : List (Session T)) → length (map woken ss) ≡ length ss
  length_woken [] = refl
  length_woken (x ∷ xs) = ap (λ n. suc n) (length_woken xs)

  -- the sessions of a table, where they were woken in place
  pub woken_items : {Z : Type 0} → (v : Vec (Session T) Z) (ws : List (Session T)) → ws ≡ map woken v.items → (with_items v ws).items ≡ map woken v.items
  woken_items v ws e =
      let l = ap length e ∙ length_woken v.items in
      let k = v.ok.0 in
      with_items_is v ws (omega (arith, l, k)) ∙ e

  -- all that rounds are told by, where all sessions of a table were woken
  pub world_woken : (told : Option PortsTold) (mine : List Entry) (old new : SessionTable T) → new.sessions.items ≡ map woken old.sessions.items → new.answers.outbox ≡ old.answers.outbox
      → new.starved ≡ old.starved
      → ◌≡◌ {A = World T} (record { told = told; mine = mine; sessions = new.sessions.items; box = new.answers.outbox; starved = new.starved })
      (record { told = told; mine = mine; sessions = map woken old.sessions.items; box = old.answers.outbox; starved = old.starved })
  world_woken told mine old new se be te =
      ap (λ (xs : List (Session T)). record { told = told; mine = mine; sessions = xs; box = new.answers.outbox; starved = new.starved }) se
      ∙ ap (λ (b : List (ℕ × List ℕ)). record { told = told; mine = mine; sessions = map woken old.sessions.items; box = b; starved = new.starved }) be
      ∙ ap (λ (n : ℕ). record { told = told; mine = mine; sessions = map woken old.sessions.items; box = old.answers.outbox; starved = n }) te
