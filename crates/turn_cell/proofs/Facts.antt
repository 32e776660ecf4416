-- What the rule says of single seats, and that it survives a step which changes one seat.
use Rattle.std.proofs.Common.{◌≡◌, ℕ, zero, suc, ◌+◌, ◌<◌, ◌≤◌, ◌≢◌, ◌⊎◌, true, false, List, [], ◌∷◌, length, set, sum_by, sym, refl, ap, ◌∙◌, subst, ⊎_elim, arith, Option, Some, None}
use mathlib.Core.Logic.{dite}
use native.Mathlib.Decide.{ℕ_discrete}
use mathlib.Core.Option.{some, some-injective}
use lib.ListN.{get_elem?}
use Rattle.std.proofs.lemmas.Bool.{cases_Bool}
use Rattle.atomic_table.specs.Table.{State}
use Rattle.atomic_table.proofs.Lists.{at_set}
use Rattle.turn_cell.specs.Turns.{HasJoined, NoneAbove}
use Rattle.turn_cell.specs.inner.Cell.{below, if_some, named, gone, drawn, Moment, Fits, AtHome, Kept}
use Rattle.turn_cell.specs.declared.view.Terms.{Terms}
use Rattle.turn_cell.specs.declared.view.View.{View}
use Rattle.turn_cell.proofs.Sums.{sum_changed, one_within, two_within, weightless, only, only-same, only-once, only-inside}

pub live_spent : {A : Type 0} {o : Option A} {x : A} → o ≡ Some x → o ≡ None → ⊥
live_spent live spent = let both = sym live ∙ spent in cc

-- a place of a list that was set
pub set_at : {A : Type 0} (l : List A) (j : ℕ) (v w : A) → get_elem? l j ≡ some v → get_elem? (set l j w) j ≡ some w
set_at [] j v w e = absurd (let both = e in cc)
set_at (x ∷ xs) zero v w e = refl
set_at (x ∷ xs) (suc j) v w e = set_at xs j v w e

pub same_at : {A : Type 0} (l : List A) (j k : ℕ) (v u : A) → k ≡ j → get_elem? l j ≡ some v → get_elem? l k ≡ some u → v ≡ u
same_at l j k v u e at_j at_k = some-injective v u (sym at_j ∙ ap (λ i. get_elem? l i) (sym e) ∙ at_k)

abbrev pub St : Type 0 → Type 0 → Type 0
St T E = State (Option T) (View T E)

abbrev pub Homes : Type 0 → Type 0
Homes T = List (mathlib.Core.Option.Option (Option T))

abbrev pub cell : {T E : Type 0} → List ℕ → Homes T → List (View T E) → St T E
cell ws hs vs = record { words = ws; homes = hs; views = vs }

module _ {T E : Type 0} where
  pub named-live : (f : ℕ → ℕ) (v : View T E) (b : Terms T) → v.about ≡ Some b → named f v ≡ f v.number
  named-live f v b live = ap (if_some (f v.number)) live

  pub named-same : (f : ℕ → ℕ) (v w : View T E) → w.about ≡ v.about → w.number ≡ v.number → named f w ≡ named f v
  named-same f v w about number = ap (if_some (f w.number)) about ∙ ap (λ n. if_some (f n) v.about) number

  pub drawn-one : (f : ℕ → ℕ) (v : View T E) (k : ℕ) → v.tickets ≡ k ∷ [] → drawn f v ≡ f k
  drawn-one f v k has = let e = ap (sum_by f) has in omega arith

module _ {T E L : Type 0} (stands : T → List (ℕ × E) → Type 0) (lasting : T → L) (a : Terms T) (s : St T E) (o : Kept stands lasting a s) where
  -- two seats that are not spent have different numbers
  pub apart : (j k : ℕ) (v u : View T E) (b c : Terms T) → k ≢ j → get_elem? s.views j ≡ some v → get_elem? s.views k ≡ some u → v.about ≡ Some b → u.about ≡ Some c → v.number ≢ u.number
  apart j k v u b c ne at_j at_k live live' same =
      let f : ℕ → ℕ = only v.number in
      let mine : named f v ≡ 1 = named-live f v b live ∙ only-same v.number in
      let theirs : named f u ≡ 1 = named-live f u c live' ∙ ap f (sym same) ∙ only-same v.number in
      omega (arith, two_within (named f) s.views j k v u ne at_j at_k, o.numbers f, only-once v.number (suc o.now.splits))

  -- a seat that is not spent has another number than each joined one
  pub joined_apart : (j k : ℕ) (v : View T E) (p : ℕ × List (ℕ × E)) (b : Terms T) → get_elem? s.views j ≡ some v → v.about ≡ Some b → get_elem? o.now.joined k ≡ some p → v.number ≢ p.0
  joined_apart j k v p b at_j live at_k same =
      let f : ℕ → ℕ = only v.number in
      let mine : named f v ≡ 1 = named-live f v b live ∙ only-same v.number in
      let theirs : gone f p ≡ 1 = ap f (sym same) ∙ only-same v.number in
      omega (arith, one_within (named f) s.views j v at_j, one_within (gone f) o.now.joined k p at_k, o.numbers f, only-once v.number (suc o.now.splits))

  pub number_le : (j : ℕ) (v : View T E) (b : Terms T) → get_elem? s.views j ≡ some v → v.about ≡ Some b → v.number ≤ o.now.splits
  number_le j v b at_j live =
      let f : ℕ → ℕ = only v.number in
      let mine : named f v ≡ 1 = named-live f v b live ∙ only-same v.number in
      let inside : v.number < suc o.now.splits = only-inside v.number (suc o.now.splits) (omega (arith, one_within (named f) s.views j v at_j, o.numbers f)) in
      omega arith

  pub ticket_below : (j k : ℕ) (v : View T E) → get_elem? s.views j ≡ some v → v.tickets ≡ k ∷ [] → k < o.now.ticket
  ticket_below j k v at_j has =
      let f : ℕ → ℕ = only k in
      let mine : drawn f v ≡ 1 = drawn-one f v k has ∙ only-same k in
      only-inside k o.now.ticket (omega (arith, one_within (drawn f) s.views j v at_j, o.tickets f))

  -- where the ticket of one seat is served, no other seat has the value
  pub none_holds : (j : ℕ) (v : View T E) → get_elem? s.views j ≡ some v → v.tickets ≡ o.now.serving ∷ []
      → (k : ℕ) (u : View T E) → k ≢ j → get_elem? s.views k ≡ some u → u.holds ≡ false
  none_holds j v at_j has k u ne at_k =
      ⊎_elim
      (λ (h : u.holds ≡ true).
      let t : ℕ = o.now.serving in
      let f : ℕ → ℕ = only t in
      let mine : drawn f v ≡ 1 = drawn-one f v t has ∙ only-same t in
      let theirs : drawn f u ≡ 1 = drawn-one f u t ((o.fits k u at_k).holds h).0 ∙ only-same t in
      absurd (omega (arith, two_within (drawn f) s.views j k v u ne at_j at_k, o.tickets f, only-once t o.now.ticket)))
      (λ (h : u.holds ≡ false). h)
      (cases_Bool u.holds)

  -- where the ticket of a seat is served that has not counted, as many turns were served as there are entries
  pub log_length : (j : ℕ) (v : View T E) → get_elem? s.views j ≡ some v → v.tickets ≡ o.now.serving ∷ [] → v.counted ≡ 0 → length o.now.log ≡ o.now.serving
  log_length j v at_j has uncounted =
      let none : sum_by (λ (u : View T E). u.counted) s.views ≡ 0 =
      weightless (λ (u : View T E). u.counted) s.views
      (λ k u at_k. dite (ℕ_discrete k j)
      (λ e. ap (λ (x : View T E). x.counted) (sym (same_at s.views j k v u e at_j at_k)) ∙ uncounted)
      (λ ne. (o.fits k u at_k).counts (none_holds j v at_j has k u ne at_k))) in
      omega (arith, o.counted)

  -- a step that changes one seat, and neither the splits nor the joins, keeps the rule
  pub kept : (j : ℕ) (v w : View T E) (d : Moment E) (ws : List ℕ) (hs : Homes T)
      → get_elem? s.views j ≡ some v → (d.splits ≡ o.now.splits) × (d.joined ≡ o.now.joined) → (w.about ≡ v.about) × (w.number ≡ v.number)
      → ws ≡ d.ticket ∷ d.serving ∷ length d.log ∷ [] → d.ticket ≤ a.limit → length hs ≡ 1
      → ((k : ℕ) (u : View T E) → k ≢ j → get_elem? s.views k ≡ some u → Fits a d k u)
      → Fits a d j w
      → ((f : ℕ → ℕ) → below f d.serving + sum_by f w.tickets + below f o.now.ticket ≡ below f d.ticket + sum_by f v.tickets + below f o.now.serving)
      → length d.log + v.counted + o.now.serving ≡ length o.now.log + w.counted + d.serving
      → (((k : ℕ) (u : View T E) → get_elem? (set s.views j w) k ≡ some u → u.holds ≡ false) → AtHome stands lasting a d.log hs)
      → HasJoined d.joined d.log → NoneAbove d.splits d.log → Kept stands lasting a (cell ws hs (set s.views j w))
  kept j v w d ws hs at_j same is words few slots others mine tickets counted home past strangers = record {
    now = d;
    words = words;
    few = few;
    small = o.small;
    slots = slots;
    fits = λ k u at_k. ⊎_elim
        (λ (t : (k ≡ j) × (w ≡ u)). let P : ℕ → Type 0 = λ i. Fits a d i u in let Q : View T E → Type 0 = λ x. Fits a d j x in subst P (sym t.0) (subst Q t.1 mine))
        (λ (t : (k ≢ j) × (get_elem? s.views k ≡ some u)). others k u t.0 t.1)
        (at_set s.views j k w u at_k);
    tickets = λ f. omega (arith, sum_changed (drawn f) s.views j v w at_j, o.tickets f, tickets f);
    numbers = λ f. omega (arith, sum_changed (named f) s.views j v w at_j, o.numbers f, named-same f v w is.0 is.1, ap (sum_by (gone f)) same.1, ap (λ n. below f (suc n)) same.0);
    counted = omega (arith, sum_changed (λ (u : View T E). u.counted) s.views j v w at_j, o.counted);
    home = home;
    past = past;
    strangers = strangers;
  }
