-- What the steps of a turn, of a join and of a closing come to, from what each of them told.
use Rattle.std.proofs.Common.{◌≡◌, ℕ, List, [], ◌∷◌, length, get_or, sym, refl, ap, ◌∙◌, subst, arith, Option, Some, None}
use mathlib.Core.Option.{some, some-injective}
use lib.ListN.{get_elem?}
use Rattle.std.proofs.lemmas.Option.{same_Some}
use Rattle.std.proofs.lemmas.List.{nil_from_length}
use Rattle.atomic_table.specs.Seated.{TableId}
use Rattle.atomic_table.specs.Table.{rest, Final, Seen}
use Rattle.turn_cell.specs.Turns.{StartsWith, IsDue, Ran}
use Rattle.turn_cell.specs.inner.Cell.{Sat, Kept}
use Rattle.turn_cell.specs.inner.Plays.{holding, counting, leaving, Gets, KnowsHeard, joining_views}
use Rattle.turn_cell.specs.SeatStates.{seat_state, Took, Closes, IsWhole}
use Rattle.turn_cell.specs.inner.Words.{IsIdle, with_ticket, Entered}
use Rattle.turn_cell.specs.declared.view.Terms.{Terms}
use Rattle.turn_cell.specs.declared.view.View.{View}
use Rattle.turn_cell.proofs.Seating.{closes}

module _ {T E L : Type 0} (stands : T → List (ℕ × E) → Type 0) (lasting : T → L) (a : Terms T) where
  -- the look m told what it got, and the value was taken out
  pub entered : (before m n after : Sat T E) (old : Option T) (x : T) → m ≡ before → length before.1 ≡ 0 → before.0.about ≡ Some a
      → Gets stands lasting m n → n.1 ≡ (0, old) ∷ rest n.1 → after ≡ (n.0, (0, None) ∷ rest n.1) → old ≡ Some x → Entered stands lasting a before x after
  entered before m n after old x same nothing-out live got has emptied is =
      let g = subst (λ (q : Sat T E). Gets stands lasting q n) same got in
      let log : List (ℕ × E) = g.1 in
      let slots : (0, Some g.0) ∷ before.1 ≡ (0, old) ∷ rest n.1 = sym (ap (λ (q : Sat T E). q.1) g.2) ∙ has in
      let value : g.0 ≡ x = same_Some g.0 x (ap (λ (l : List (ℕ × Option T)). (get_or l 0 (0, old)).1) slots ∙ is) in (
        log,
        emptied ∙ ap (λ (q : Sat T E). (q.0, (0, None) ∷ rest q.1)) g.2 ∙ ap (λ (l : List (ℕ × Option T)). (holding before.0 log, (0, None) ∷ l)) (nil_from_length before.1 nothing-out),
        subst (λ (y : T). stands y log) value g.3,
        ap lasting (sym value) ∙ (g.4 a live).0,
        (g.4 a live).1,
        (g.4 a live).2,
        g.5,
        g.6,
        g.7,
      )

  -- the steps of a turn, one after another
  pub took : {A : Type 0} (need : ℕ → List (ℕ × E) → L → Type 0) (entry : A → E) (promise : A → List (ℕ × E) → L → Type 0) (answer : A)
      (id id' : TableId) (m drawn out counted left : Sat T E) (ticket : ℕ) (x y : T)
      → need m.0.number m.0.seen (lasting a.first.value) → drawn ≡ with_ticket m ticket → Entered stands lasting a drawn x out → Ran stands lasting need entry promise x y answer
      → counted ≡ (counting out.0 (entry answer), out.1) → left ≡ (leaving counted.0, []) → Took stands lasting a (entry answer) (promise answer) (seat_state id m.0) (seat_state id' left.0)
  took need entry promise answer id id' m drawn out counted left ticket x y needs drew enters ran counts leaves =
      let e = subst (λ (q : Sat T E). Entered stands lasting a q x out) drew enters in
      let log : List (ℕ × E) = e.0 in
      let now : left.0 ≡ leaving (counting (holding (with_ticket m ticket).0 log) (entry answer)) =
      ap (λ (q : Sat T E). q.0) leaves ∙ ap (λ (q : Sat T E). leaving q.0) counts ∙ ap (λ (q : Sat T E). leaving (counting q.0 (entry answer))) e.1 in
      let room = e.4 in
      let small = e.5 in
      let due : IsDue stands lasting need x m.0.number m.0.seen log = (e.2, e.6, omega arith, subst (λ (l : L). need m.0.number m.0.seen l) (sym e.3) needs) in
      let did = ran.1 m.0.number m.0.seen log due in
      record {
        log = log;
        before = x;
        after = y;
        follows = e.6;
        room = e.4;
        seen = ap (λ (v : View T E). v.seen) now;
        mine = ap (λ (v : View T E). v.mine) now;
        stood = e.2;
        stands_now = did.0;
        lasts_before = e.3;
        lasts_after = ran.0 ∙ e.3;
        promised = subst (λ (l : L). promise answer log l) e.3 did.1;
        worn = ap (λ (v : View T E). v.worn) now;
      }

  -- the look after a join told that the first seat has seen what either had seen
  pub seen_both : (v w : View T E) (m n : Sat T E) → m.0 ≡ joining_views v w → KnowsHeard m.0 → n ≡ m → StartsWith n.0.seen v.seen × StartsWith n.0.seen w.seen
  seen_both v w m n joined heard same =
      let h = subst (λ (u : View T E). KnowsHeard u) joined heard in
      let is : n.0 ≡ joining_views v w = ap (λ (q : Sat T E). q.0) same ∙ joined in (
        subst (λ (u : View T E). StartsWith u.seen v.seen) (sym is) (h 0 v.seen refl),
        subst (λ (u : View T E). StartsWith u.seen w.seen) (sym is) (h 1 w.seen refl),
      )

  -- the last value that the slot had
  pub closed : (cell : TableId) (ws : List ℕ) (xs : List (Option T)) (id : ℕ) (m : Sat T E) (last : Option T) → Final (Seen (Kept stands lasting a) id m.0) ws xs
      → m.0.about ≡ Some a → IsIdle m → IsWhole (seat_state cell m.0) → get_elem? xs 0 ≡ some last → (x : T) × (last ≡ Some x) × Closes stands lasting a (seat_state cell m.0) x
  closed cell ws xs id m last final live idle all-joined taken =
      let t = closes stands lasting a ws xs id m.0 final live all-joined.0 all-joined.1 (nil_from_length m.0.tickets idle.1) idle.2 idle.3 in (
        t.0,
        some-injective last (Some t.0) (sym taken ∙ t.1),
        record { stands_now = t.2; lasts = t.3; worn = t.4 },
      )
