-- Making a cell, splitting and joining seats keep the rule, and what the rule says of a cell that is closed.
use Rattle.std.proofs.Common.{◌≡◌, ℕ, zero, suc, ◌+◌, ◌^◌, ◌<◌, ◌≤◌, ◌≢◌, ◌⊎◌, Bool, true, false, ◌||◌, List, [], ◌∷◌, ◌++◌, length, set, sum_by, sym, refl, ap, ◌∙◌, subst, inl, inr, ⊎_elim, arith, Option, Some, None, true≢false}
use Rattle.std.proofs.lemmas.List.Sums.{sum_by-append}
use mathlib.Core.Logic.{dite}
use native.Mathlib.Decide.{ℕ_discrete, dec_le}
use mathlib.Core.Option.{some, some-injective, some-ne-none}
use lib.ListN.{get_elem?}
use Rattle.std.proofs.lemmas.Option.{same_Some}
use Rattle.atomic_table.specs.Table.{opening, Splits, Joins, Final, Seen}
use Rattle.atomic_table.proofs.Lists.{at_set, set_else, at_snoc, at_longer}
use Rattle.turn_cell.specs.Turns.{by, StartsWith}
use Rattle.turn_cell.specs.inner.Cell.{below, if_some, named, gone, drawn, newcomer, Moment, Fits, Kept}
use Rattle.turn_cell.specs.inner.Plays.{split_first, split_new, joining_views, spent}
use Rattle.turn_cell.specs.declared.view.Terms.{Terms}
use Rattle.turn_cell.specs.declared.view.View.{View}
use Rattle.turn_cell.proofs.Sums.{sum_changed, two_within, weightless, weighty, sum-ones, below_suc, below-each, only, only-is, only-below}
use Rattle.turn_cell.proofs.Logs.{starts_longer, longer_starts_left, longer_starts_right, by-longer_left, by-longer_right, none_before, whole}
use Rattle.turn_cell.proofs.Facts.{live_spent, same_at, St, named-live}

or_true : (b c : Bool) → b || c ≡ true → (b ≡ true) ⊎ (c ≡ true)
or_true true c e = inl refl
or_true false c e = inr e

-- what is so of each of two is so of what stands in their list
of_two : {A : Type 0} (P : A → Type 0) (x y : A) → P x → P y → (k : ℕ) (l : A) → get_elem? (x ∷ y ∷ []) k ≡ some l → P l
of_two P x y px py zero l e = subst P (some-injective x l e) px
of_two P x y px py (suc zero) l e = subst P (some-injective y l e) py
of_two P x y px py (suc (suc k)) l e = absurd (some-ne-none l (sym e))

beyond_one : {A : Type 0} (x y : A) (k : ℕ) → k ≢ 0 → get_elem? (x ∷ []) k ≡ some y → ⊥
beyond_one x y zero ne e = ne refl
beyond_one x y (suc k) ne e = some-ne-none y (sym e)

none_weighs : {A : Type 0} (o : Option A) → if_some 1 o ≡ 0 → o ≡ None
none_weighs None e = refl
none_weighs (Some x) e = absurd (omega arith)

weighs_some : {A : Type 0} (n : ℕ) (o : Option A) → 0 < if_some n o → 0 < n
weighs_some n None h = absurd (omega arith)
weighs_some n (Some x) h = h

module _ {T E L : Type 0} (stands : T → List (ℕ × E) → Type 0) (lasting : T → L) (a : Terms T) where
  abbrev Rule : St T E → Type 0
  Rule s = Kept stands lasting a s

  pub opens : (value : T) → stands value [] → lasting value ≡ lasting a.first.value → a.limit ≤ 2 ^ 62 → Rule (opening (0 ∷ 0 ∷ 0 ∷ []) (Some value ∷ []) (newcomer a))
  opens value stood lasts small =
      let d : Moment E = record { ticket = 0; serving = 0; splits = 0; log = []; joined = [] } in
      let first : Fits a d 0 (newcomer a) = record {
        sees = ([], refl);
        own = λ b at_b. (sym (same_Some a b at_b), refl, refl);
        worn = λ h. absurd (true≢false (sym h));
        holds = λ h. absurd (true≢false (sym h));
        counts = λ _. refl;
        spent = λ h. absurd (live_spent refl h);
        heard = λ k l at_k. absurd (some-ne-none l (sym at_k));
        first = λ _. (refl, refl, refl, λ k p at_k. absurd (some-ne-none p (sym at_k)));
      } in
      record {
        now = d;
        words = refl;
        few = omega arith;
        small = small;
        slots = refl;
        fits = λ k v at_k. ⊎_elim
            (λ (t : (k ≡ 0) × (newcomer a ≡ v)). let P : ℕ → Type 0 = λ i. Fits a d i v in let Q : View T E → Type 0 = λ x. Fits a d 0 x in subst P (sym t.0) (subst Q t.1 first))
            (λ (t : (k ≢ 0) × (get_elem? (newcomer a ∷ []) k ≡ some v)). absurd (beyond_one (newcomer a) v k t.0 t.1))
            (at_set (newcomer a ∷ []) 0 k (newcomer a) v at_k);
        tickets = λ f. refl;
        numbers = λ f. omega arith;
        counted = refl;
        home = λ _. (value, refl, stood, lasts);
        past = λ k p at_k. absurd (some-ne-none p (sym at_k));
        strangers = λ n out. refl;
      }

  pub splits_kept : (id : ℕ) (v : View T E) → v.about ≡ Some a → v.first ≡ true → v.tickets ≡ [] → v.holds ≡ false → Splits Rule id v (split_first v) (split_new v)
  splits_kept id v live is_first none-drawn out s o me =
      let fit = o.fits id v me in
      let f1 = fit.first is_first in
      let left : View T E = split_first v in
      let right : View T E = split_new v in
      let vs : List (View T E) = set s.views id left in
      let d : Moment E = record o.now { splits = o.now.splits + 1 } in
      let new_number : v.splits + 1 ≡ o.now.splits + 1 = ap (λ n. n + 1) f1.1 in
      let no_entry : by (v.splits + 1) o.now.log ≡ [] = let above : o.now.splits < v.splits + 1 = omega arith in o.strangers (v.splits + 1) above in
      let unticketed : (f : ℕ → ℕ) → drawn f left ≡ drawn f v = λ f. refl in
      record {
        now = d;
        words = o.words;
        few = o.few;
        small = o.small;
        slots = o.slots;
        fits = λ k u at_k. ⊎_elim
            (λ (t : get_elem? vs k ≡ some u). ⊎_elim
            (λ (q : (k ≡ id) × (left ≡ u)).
            let P : ℕ → Type 0 = λ i. Fits a d i u in let Q : View T E → Type 0 = λ x. Fits a d id x in
            subst P (sym q.0) (subst Q q.1 (record {
              sees = fit.sees;
              own = fit.own;
              worn = fit.worn;
              holds = fit.holds;
              counts = fit.counts;
              spent = fit.spent;
              heard = fit.heard;
              first = λ _. (f1.0, new_number, f1.2, f1.3);
            })))
            (λ (q : (k ≢ id) × (get_elem? s.views k ≡ some u)). let f = o.fits k u q.1 in record {
              sees = f.sees;
              own = f.own;
              worn = f.worn;
              holds = f.holds;
              counts = f.counts;
              spent = f.spent;
              heard = f.heard;
              first = λ h. absurd (q.0 ((f.first h).0 ∙ sym f1.0));
            })
            (at_set s.views id k left u t))
            (λ (e : right ≡ u). let Q : View T E → Type 0 = λ x. Fits a d k x in subst Q e (record {
              sees = fit.sees;
              own = λ b at_b. (sym (same_Some a b (sym live ∙ at_b)), no_entry, none_before (v.splits + 1) o.now.log v.seen no_entry fit.sees);
              worn = fit.worn;
              holds = λ h. absurd (true≢false (sym h));
              counts = λ _. refl;
              spent = λ h. absurd (live_spent live h);
              heard = λ i l at_i. absurd (some-ne-none l (sym at_i));
              first = λ h. absurd (true≢false (sym h));
            }))
            (at_snoc vs right u k at_k);
        tickets = λ f. omega (arith, sum_by-append (drawn f) vs (right ∷ []), sum_changed (drawn f) s.views id v left me, o.tickets f);
        numbers = λ f.
            let mine : named f left ≡ f v.number = named-live f left a live in
            let was : named f v ≡ f v.number = named-live f v a live in
            let theirs : named f right ≡ f (v.splits + 1) = named-live f right a live in
            let next : o.now.splits + 1 ≡ suc o.now.splits = omega arith in
            let more : below f (suc (o.now.splits + 1)) ≡ below f (suc o.now.splits) + f (v.splits + 1) =
            below_suc f (o.now.splits + 1) ∙ ap (λ n. below f n + f (o.now.splits + 1)) next ∙ ap (λ n. below f (suc o.now.splits) + f n) (sym new_number) in
            omega (arith, more, sum_by-append (named f) vs (right ∷ []), sum_changed (named f) s.views id v left me, o.numbers f);
        counted = omega (arith, sum_by-append (λ (u : View T E). u.counted) vs (right ∷ []), sum_changed (λ (u : View T E). u.counted) s.views id v left me, o.counted);
        home = λ free. o.home (λ k u at_k. dite (ℕ_discrete k id)
            (λ e. ap (λ (x : View T E). x.holds) (sym (same_at s.views id k v u e me at_k)) ∙ out)
            (λ ne. free k u (at_longer vs (right ∷ []) k u (set_else s.views id k left ne ∙ at_k))));
        past = o.past;
        strangers = λ n more. o.strangers n (omega arith);
      }

  pub joins_kept : (id : ℕ) (v : View T E) (other : ℕ) (w : View T E) → v.about ≡ Some a → w.about ≡ Some a → v.first ≡ true → v.holds ≡ false → w.tickets ≡ [] → w.holds ≡ false → w.counted ≡ 0
      → Joins Rule id v other w (joining_views v w) spent
  joins_kept id v other w live live' is_first out none-drawn out' uncounted s o me apart them =
      let both : View T E = joining_views v w in
      let vs : List (View T E) = set s.views id both in
      let there : get_elem? s.views other ≡ some w = sym (set_else s.views id other both apart) ∙ them in
      let fit = o.fits id v me in let fit' = o.fits other w there in
      let f1 = fit.first is_first in
      let log : List (ℕ × E) = o.now.log in
      let own = fit.own a live in let own' = fit'.own a live' in
      let entry : ℕ × List (ℕ × E) = (w.number, w.mine) in
      let d : Moment E = record o.now { joined = o.now.joined ++ entry ∷ [] } in
      let known : (k : ℕ) (p : ℕ × List (ℕ × E)) → get_elem? d.joined k ≡ some p → (by p.0 log ≡ p.1) × (by p.0 both.seen ≡ p.1) = λ k p at_k. ⊎_elim
      (λ (t : get_elem? o.now.joined k ≡ some p). (
        o.past k p t,
        by-longer_left p.0 log v.seen w.seen fit.sees fit'.sees (o.past k p t ∙ sym (f1.3 k p t)) ∙ f1.3 k p t,
      ))
      (λ (e : entry ≡ p). let P : ℕ × List (ℕ × E) → Type 0 = λ q. (by q.0 log ≡ q.1) × (by q.0 both.seen ≡ q.1) in subst P e (
        own'.1,
        by-longer_right w.number log v.seen w.seen fit.sees fit'.sees (own'.1 ∙ sym own'.2) ∙ own'.2,
      ))
      (at_snoc o.now.joined entry p k at_k) in
      let both_fit : Fits a d id both = record {
        sees = starts_longer log v.seen w.seen fit.sees fit'.sees;
        own = λ b at_b. let f = fit.own b at_b in (f.0, f.1, by-longer_left v.number log v.seen w.seen fit.sees fit'.sees (f.1 ∙ sym f.2) ∙ f.2);
        worn = λ h. ⊎_elim fit.worn fit'.worn (or_true v.worn w.worn h);
        holds = λ h. absurd (true≢false (sym h ∙ out));
        counts = fit.counts;
        spent = fit.spent;
        heard = of_two (λ (l : List (ℕ × E)). StartsWith both.seen l) v.seen w.seen (longer_starts_left log v.seen w.seen fit.sees fit'.sees) (longer_starts_right log v.seen w.seen fit.sees fit'.sees);
        first = λ _. (f1.0, f1.1, ap (λ (l : List (ℕ × List (ℕ × E))). l ++ entry ∷ []) f1.2, λ k p at_k. (known k p at_k).1);
      } in
      let spent_fit : (k : ℕ) → Fits a d k spent = λ k. record {
        sees = (log, refl);
        own = λ b at_b. absurd (live_spent at_b refl);
        worn = λ h. absurd (true≢false (sym h));
        holds = λ h. absurd (true≢false (sym h));
        counts = λ _. refl;
        spent = λ _. (refl, refl);
        heard = λ i l at_i. absurd (some-ne-none l (sym at_i));
        first = λ h. absurd (true≢false (sym h));
      } in
      record {
        now = d;
        words = o.words;
        few = o.few;
        small = o.small;
        slots = o.slots;
        fits = λ k u at_k. ⊎_elim
            (λ (t : (k ≡ other) × (spent ≡ u)). let Q : View T E → Type 0 = λ x. Fits a d k x in subst Q t.1 (spent_fit k))
            (λ (t : (k ≢ other) × (get_elem? vs k ≡ some u)). ⊎_elim
            (λ (q : (k ≡ id) × (both ≡ u)). let P : ℕ → Type 0 = λ i. Fits a d i u in let Q : View T E → Type 0 = λ x. Fits a d id x in subst P (sym q.0) (subst Q q.1 both_fit))
            (λ (q : (k ≢ id) × (get_elem? s.views k ≡ some u)). let f = o.fits k u q.1 in record {
              sees = f.sees;
              own = f.own;
              worn = f.worn;
              holds = f.holds;
              counts = f.counts;
              spent = f.spent;
              heard = f.heard;
              first = λ h. absurd (q.0 ((f.first h).0 ∙ sym f1.0));
            })
            (at_set s.views id k both u t.1))
            (at_set vs other k spent u at_k);
        tickets = λ f. let none-left : sum_by f w.tickets ≡ 0 = ap (sum_by f) none-drawn in
            omega (arith, sum_changed (drawn f) vs other w spent them, sum_changed (drawn f) s.views id v both me, o.tickets f);
        numbers = λ f.
            let theirs : named f w ≡ f w.number = named-live f w a live' in
            omega (arith, sum_changed (named f) vs other w spent them, sum_changed (named f) s.views id v both me, o.numbers f, sum_by-append (gone f) o.now.joined (entry ∷ []));
        counted = omega (arith, sum_changed (λ (u : View T E). u.counted) vs other w spent them, sum_changed (λ (u : View T E). u.counted) s.views id v both me, o.counted);
        home = λ free. o.home (λ k u at_k. dite (ℕ_discrete k id)
            (λ e. ap (λ (x : View T E). x.holds) (sym (same_at s.views id k v u e me at_k)) ∙ out)
            (λ ne. dite (ℕ_discrete k other)
            (λ e. ap (λ (x : View T E). x.holds) (sym (same_at s.views other k w u e there at_k)) ∙ out')
            (λ ne'. free k u (set_else vs other k spent ne' ∙ (set_else s.views id k both ne ∙ at_k)))));
        past = λ k p at_k. (known k p at_k).0;
        strangers = o.strangers;
      }

  -- A cell is closed by its first seat once all others were joined into it: the value is at home, and the seat has seen the whole history.
  pub closes : (ws : List ℕ) (xs : List (Option T)) (id : ℕ) (v : View T E) → Final (Seen Rule id v) ws xs
      → v.about ≡ Some a → v.first ≡ true → length v.joined ≡ v.splits → v.tickets ≡ [] → v.holds ≡ false → v.counted ≡ 0
      → (x : T) × (get_elem? xs 0 ≡ some (Some x)) × stands x v.seen × (lasting x ≡ lasting a.first.value) × (v.worn ≡ true → a.limit ≤ length v.seen)
  closes ws xs id v final live is_first all-joined none-drawn out uncounted =
      let s : St T E = final.0 in
      let o = final.1.0 in let me = final.1.1 in
      let fit = o.fits id v me in let f1 = fit.first is_first in
      let log : List (ℕ × E) = o.now.log in
      let ones : ℕ → ℕ = λ _. 1 in
      let joins : length o.now.joined ≡ o.now.splits = ap length (sym f1.2) ∙ all-joined ∙ f1.1 in
      let mine : named ones v ≡ 1 = named-live ones v a live in
      let lone : sum_by (named ones) s.views ≡ 1 = omega (arith, o.numbers ones, sum-ones o.now.joined, below-each (suc o.now.splits)) in
      let others_spent : (k : ℕ) (u : View T E) → k ≢ id → get_elem? s.views k ≡ some u → u.about ≡ None = λ k u ne at_k.
      none_weighs u.about (omega (arith, two_within (named ones) s.views id k v u ne me at_k)) in
      let no_holder : (k : ℕ) (u : View T E) → get_elem? s.views k ≡ some u → u.holds ≡ false = λ k u at_k. dite (ℕ_discrete k id)
      (λ e. ap (λ (x : View T E). x.holds) (sym (same_at s.views id k v u e me at_k)) ∙ out)
      (λ ne. ((o.fits k u at_k).spent (others_spent k u ne at_k)).1) in
      let no_ticket : (k : ℕ) (u : View T E) → get_elem? s.views k ≡ some u → drawn ones u ≡ 0 = λ k u at_k. dite (ℕ_discrete k id)
      (λ e. ap (drawn ones) (sym (same_at s.views id k v u e me at_k)) ∙ ap (sum_by ones) none-drawn)
      (λ ne. ap (sum_by ones) ((o.fits k u at_k).spent (others_spent k u ne at_k)).0) in
      let no_count : (k : ℕ) (u : View T E) → get_elem? s.views k ≡ some u → u.counted ≡ 0 = λ k u at_k. (o.fits k u at_k).counts (no_holder k u at_k) in
      let all_served : o.now.serving ≡ o.now.ticket = omega (arith, o.tickets ones, weightless (drawn ones) s.views no_ticket, below-each o.now.serving, below-each o.now.ticket) in
      let all_counted : length log ≡ o.now.serving = omega (arith, o.counted, weightless (λ (u : View T E). u.counted) s.views no_count) in
      let own = fit.own a live in
      let of_seat : (n : ℕ) → v.number ≡ n → by n log ≡ by n v.seen = λ n e. subst (λ (k : ℕ). by k log ≡ by k v.seen) e (own.1 ∙ sym own.2) in
      let each : (n : ℕ) → by n log ≡ by n v.seen = λ n. dite (dec_le n o.now.splits)
      (λ inside.
      let f : ℕ → ℕ = only n in
      let one : below f (suc o.now.splits) ≡ 1 = only-below n (suc o.now.splits) (omega arith) in
      dite (ℕ_discrete (sum_by (named f) s.views) 0)
      (λ none-live.
      let t = weighty (gone f) o.now.joined (omega (arith, o.numbers f)) in
      let p : ℕ × List (ℕ × E) = t.1 in
      let is : p.0 ≡ n = only-is n p.0 t.3 in
      subst (λ (k : ℕ). by k log ≡ by k v.seen) is (o.past t.0 p t.2 ∙ sym (f1.3 t.0 p t.2)))
      (λ some-live.
      let t = weighty (named f) s.views (omega arith) in
      let u : View T E = t.1 in
      dite (ℕ_discrete t.0 id)
      (λ e. let same : v ≡ u = same_at s.views id t.0 v u e me t.2 in of_seat n (ap (λ (x : View T E). x.number) same ∙ only-is n u.number (weighs_some (f u.number) u.about t.3)))
      (λ ne. let gone-one : named f u ≡ 0 = ap (if_some (f u.number)) (others_spent t.0 u ne t.2) in let weighs = t.3 in absurd (omega arith))))
      (λ outside. let none-there : by n log ≡ [] = o.strangers n (omega arith) in none-there ∙ sym (none_before n log v.seen none-there fit.sees)) in
      let same : log ≡ v.seen = whole log v.seen fit.sees each in
      let got = o.home no_holder in
      let few = o.few in (
        got.0,
        final.4 0 (Some got.0) got.1,
        subst (λ (l : List (ℕ × E)). stands got.0 l) same got.2,
        got.3,
        λ h. let reached = fit.worn h in let long = ap length same in omega arith,
      )
