-- Who stopped the farm: where the Stops of each seat stand.
use Rattle.std.proofs.Common.{◌≡◌, ◌≢◌, ◌⊎◌, inl, inr, ℕ, Bool, true, false, cond, ◌==◌, List, [], ◌∷◌, ◌++◌, Option, Some, None, refl, sym, ap, ◌∙◌, subst, arith, append_assoc}
use Rattle.std.specs.List.{list_any}
use Rattle.std.proofs.lemmas.Bool.Decides.{nat_tests}
use Rattle.std.proofs.lemmas.List.{map-append}
use Rattle.std.proofs.lemmas.List.Elements.{filter-append}
use Rattle.std.proofs.lemmas.List.Folds.{list_any-append}
use Rattle.std.proofs.Math.Bool.{or-true}
use Rattle.farm_history.specs.declared.answers.Tally.{Tally as Totals}
use Rattle.farm_history.specs.Entries.{Entry, Stop, Tally}
use Rattle.farm_history.specs.Lists.{Each}
use Rattle.reactor_ports.specs.declared.ends.FrontEnd.{FrontEnd}
use Rattle.turn_cell.specs.Turns.{by}
use Rattle.farm_shared.specs.Seats.{plain}
use Rattle.front_loop.specs.Kinds.{IsOfFront, AreOfFront}
use Rattle.farm_runs.specs.Promise.{own_entries}
use Rattle.farm_runs.proofs.Owners.{is_stop}

-- Where an entry of a seat stands among its own.

by_here : (n : ℕ) (e : Entry) (after : List (ℕ × Entry)) → by n ((n, e) ∷ after) ≡ (n, e) ∷ by n after
by_here n e after = let own : (n == n) ≡ true = grind (arith, nat_tests) in ap (λ b. cond b ((n, e) ∷ by n after) (by n after)) own

pub split_own : (n : ℕ) (e : Entry) (before after : List (ℕ × Entry)) → plain (by n (before ++ (n, e) ∷ after)) ≡ plain (by n before) ++ e ∷ plain (by n after)
split_own n e before after =
    ap plain (filter-append (λ x. x.0 == n) before ((n, e) ∷ after) ∙ ap (λ l. by n before ++ l) (by_here n e after)) ∙ map-append (λ x. x.1) (by n before) ((n, e) ∷ by n after)

plain_none : (xs : List (ℕ × Entry)) → plain xs ≡ [] → xs ≡ []
plain_none [] none = refl
plain_none (x ∷ xs) none = cc

-- a list with an entry in it is not empty
has_some : (xs ys : List Entry) (e : Entry) → xs ++ e ∷ ys ≡ [] → ⊥
has_some [] ys e none = cc
has_some (x ∷ xs) ys e none = cc

-- Fronts.

-- where a Stop stands among the entries of another front than control's, it is the last, and the front did not finish
front_stop : (n : ℕ) (end : FrontEnd) (bs cs served stop : List Entry) → (n ≡ 2 → ⊥) → bs ++ Stop ∷ cs ≡ served ++ stop → Each (IsOfFront n) served → (stop ≡ []) ⊎ ((stop ≡ Stop ∷ []) × (end ≢ FrontEnd.Finished)) →
    (cs ≡ []) × (end ≢ FrontEnd.Finished)
front_stop n end bs cs [] stop other is each (inl none) = absurd (has_some bs cs Stop (is ∙ none))
front_stop n end [] cs [] stop other is each (inr one) = let e : Stop ∷ cs ≡ Stop ∷ [] = is ∙ one.0 in (cc, one.1)
front_stop n end (b ∷ bs) cs [] stop other is each (inr one) = let e : b ∷ (bs ++ Stop ∷ cs) ≡ Stop ∷ [] = is ∙ one.0 in absurd (has_some bs cs Stop cc)
front_stop n end [] cs (s ∷ served) stop other is each may = let e : Stop ≡ s = cc in absurd (other (subst (IsOfFront n) (sym e) each.0))
front_stop n end (b ∷ bs) cs (s ∷ served) stop other is each may = front_stop n end bs cs served stop other (cc) each.1 may

pub ends_front : (n m : ℕ) (end : FrontEnd) (h before after : List (ℕ × Entry)) → (n ≡ 2 → ⊥) → h ≡ before ++ (m, Stop) ∷ after → AreOfFront n (plain (by m h)) end → (by m after ≡ []) × (end ≢ FrontEnd.Finished)
ends_front n m end h before after other is a =
    let f = front_stop n end (plain (by m before)) (plain (by m after)) a.served a.stop other (sym (split_own m Stop before after) ∙ (ap (λ l. plain (by m l)) (sym is) ∙ a.are)) a.kinds a.may_stop in
    (plain_none (by m after) f.0, f.1)

-- Seats that put no Stop.

any_there : (xs ys : List Entry) → list_any is_stop (xs ++ Stop ∷ ys) ≡ true
any_there xs ys = list_any-append is_stop xs (Stop ∷ ys) ∙ or-true (list_any is_stop xs)

pub never_stops : (n : ℕ) (h before after : List (ℕ × Entry)) → h ≡ before ++ (n, Stop) ∷ after → list_any is_stop (plain (by n h)) ≡ false → ⊥
never_stops n h before after is none =
    let there = any_there (plain (by n before)) (plain (by n after)) in
    let same = ap (λ l. list_any is_stop (plain (by n l))) is ∙ ap (list_any is_stop) (split_own n Stop before after) in
    let never = sym none ∙ (same ∙ there) in
    cc

-- The run's own seat.

unstopped : (tally : Option Totals) → list_any is_stop (own_entries false tally) ≡ false
unstopped (Some a) = refl
unstopped None = refl

-- its Stop is the first of its entries
stops_first : (tally : Option Totals) (bs cs : List Entry) → bs ++ Stop ∷ cs ≡ own_entries true tally → bs ≡ []
stops_first tally [] cs is = refl
stops_first (Some a) (b ∷ []) cs is = let e : Stop ∷ cs ≡ Tally a ∷ [] = cc in let f : Stop ≡ Tally a = cc in cc
stops_first (Some a) (b ∷ c ∷ bs) cs is = let e : c ∷ (bs ++ Stop ∷ cs) ≡ Tally a ∷ [] = cc in absurd (has_some bs cs Stop cc)
stops_first None (b ∷ bs) cs is = absurd (has_some bs cs Stop cc)

-- an entry of a seat that has none before it stands at one place
one_place : (n : ℕ) (e f : Entry) (xs cs ys ds : List (ℕ × Entry)) → by n xs ≡ [] → by n ys ≡ [] → xs ++ (n, e) ∷ cs ≡ ys ++ (n, f) ∷ ds → cs ≡ ds
one_place n e f [] cs [] ds none none' is = cc
one_place n e f [] cs (y ∷ ys) ds none none' is = let same : (n, e) ≡ y = cc in let never : by n ((n, e) ∷ ys) ≡ [] = subst (λ z. by n (z ∷ ys) ≡ []) (sym same) none' in let here = sym (by_here n e ys) ∙ never in cc
one_place n e f (x ∷ xs) cs [] ds none none' is = let same : (n, f) ≡ x = cc in let never : by n ((n, f) ∷ xs) ≡ [] = subst (λ z. by n (z ∷ xs) ≡ []) (sym same) none in let here = sym (by_here n f xs) ∙ never in cc
one_place n e f (x ∷ xs) cs (y ∷ ys) ds none none' is = one_place n e f xs cs ys ds (rest x (by n xs) (x.0 == n) none) (rest y (by n ys) (y.0 == n) none') cc
  where
    rest : (z : ℕ × Entry) (zs : List (ℕ × Entry)) (b : Bool) → cond b (z ∷ zs) zs ≡ [] → zs ≡ []
    rest z zs true is = cc
    rest z zs false is = is

none_right : (xs ys : List (ℕ × Entry)) → xs ++ ys ≡ [] → ys ≡ []
none_right [] ys is = is
none_right (x ∷ xs) ys is = cc

adds_none : (xs ys : List (ℕ × Entry)) → xs ++ ys ≡ xs → ys ≡ []
adds_none [] ys is = is
adds_none (x ∷ xs) ys is = adds_none xs ys cc

-- a seat whose entries had all been seen has none later
none_later : (k : ℕ) (seen rest : List (ℕ × Entry)) → by k (seen ++ rest) ≡ by k seen → by k rest ≡ []
none_later k seen rest same = adds_none (by k seen) (by k rest) (sym (filter-append (λ x. x.0 == k) seen rest) ∙ same)

after_stop : (k : ℕ) (mid after : List (ℕ × Entry)) → (0 == k) ≡ false → by k (mid ++ (0, Stop) ∷ after) ≡ [] → by k after ≡ []
after_stop k mid after other none =
    let right = none_right (by k mid) (by k ((0, Stop) ∷ after)) (sym (filter-append (λ x. x.0 == k) mid ((0, Stop) ∷ after)) ∙ none) in
    sym (ap (λ b. cond b ((0, Stop) ∷ by k after) (by k after)) other) ∙ right

-- What is known of the run's own Stop: the history goes on from it, and before it the seat had no entry and had seen just those of each front
pub record OwnStop (h seen : List (ℕ × Entry)) : Type 0 where
  pub mid : List (ℕ × Entry)
  pub rest : List (ℕ × Entry)
  pub is : h ≡ (seen ++ mid) ++ (0, Stop) ∷ rest
  pub none : by 0 (seen ++ mid) ≡ []

pub own_stop : (stopped : Bool) (tally : Option Totals) (h seen before after : List (ℕ × Entry)) → plain (by 0 h) ≡ own_entries stopped tally → (stopped ≡ true → OwnStop h seen) → h ≡ before ++ (0, Stop) ∷ after →
    (k : ℕ) → (0 == k) ≡ false → by k h ≡ by k seen → by k after ≡ []
own_stop false tally h seen before after own stop is k other all = absurd (never_stops 0 h before after is (ap (list_any is_stop) own ∙ unstopped tally))
own_stop true tally h seen before after own stop is k other all =
    let s = stop refl in
    let first = plain_none (by 0 before) (stops_first tally (plain (by 0 before)) (plain (by 0 after)) (sym (split_own 0 Stop before after) ∙ (ap (λ l. plain (by 0 l)) (sym is) ∙ own))) in
    let same : after ≡ s.rest = one_place 0 Stop Stop before after (seen ++ s.mid) s.rest first s.none (sym is ∙ s.is) in
    let whole : h ≡ seen ++ (s.mid ++ (0, Stop) ∷ s.rest) = s.is ∙ append_assoc seen s.mid ((0, Stop) ∷ s.rest) in
    ap (by k) same ∙ after_stop k s.mid s.rest other (none_later k seen (s.mid ++ (0, Stop) ∷ s.rest) (ap (by k) (sym whole) ∙ all))
