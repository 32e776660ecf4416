-- Each kind of step of a turn keeps the rule.
use Rattle.std.proofs.Common.{◌≡◌, ℕ, ◌+◌, ◌%◌, ◌^◌, ◌<◌, ◌≤◌, ◌≢◌, true, false, List, [], ◌∷◌, ◌++◌, length, get_or, set, sum_by, sym, refl, ap, ◌∙◌, subst, arith, cond, eqb, eq-eqb, ne_eqb, Option, Some, length-set, length-append, true≢false}
use Rattle.std.proofs.lemmas.List.{append-nil}
use mathlib.Core.Logic.{dite}
use native.Mathlib.Decide.{ℕ_discrete}
use mathlib.Core.Option.{none, some}
use lib.ListN.{get_elem?}
use lib.Seq.{set-get_or}
use Rattle.std.proofs.lemmas.Option.{same_Some}
use prog.Atomic.{either}
use Rattle.atomic_table.specs.Table.{step, keeps, takes, gives, Allows}
use Rattle.atomic_table.proofs.Lists.{set_here, set_else, set_again, exchanged}
use Rattle.turn_cell.specs.Turns.{HasJoined, NoneAbove}
use Rattle.turn_cell.specs.inner.Cell.{below, Sat, Moment, Fits, Kept}
use Rattle.turn_cell.specs.inner.Plays.{after_draw, limit_of, drew, holding, looked, counting, counted_as, leaving, served, learned, KnowsJoined, KnowsStrangers}
use Rattle.turn_cell.specs.declared.view.Terms.{Terms}
use Rattle.turn_cell.specs.declared.view.View.{View}
use Rattle.turn_cell.proofs.Sums.{below_next}
use Rattle.turn_cell.proofs.Logs.{by-own, by-other, starts_more, starts_through, none_before}
use Rattle.turn_cell.proofs.Facts.{live_spent, set_at, same_at, St, cell, apart, joined_apart, number_le, ticket_below, none_holds, log_length, kept}

module _ {T E L : Type 0} (stands : T → List (ℕ × E) → Type 0) (lasting : T → L) (a : Terms T) where
  abbrev Rule : St T E → Type 0
  Rule s = Kept stands lasting a s

  -- a step that leaves the word as it was and changes nothing
  unchanged : (s : St T E) (o : Rule s) (i id : ℕ) (v : View T E) → get_elem? s.views id ≡ some v → Rule (cell (set s.words i (get_or s.words i 0)) s.homes (set s.views id v))
  unchanged s o i id v me =
      subst (λ (ws : List ℕ). Rule (cell ws s.homes (set s.views id v))) (sym (set-get_or s.words i 0))
      (subst (λ (vs : List (View T E)). Rule (cell s.words s.homes vs)) (sym (set_again s.views id v me)) o)

  -- the first seat knows the joined numbers and the splits
  knows_joined : (d : Moment E) (j : ℕ) (v : View T E) (log : List (ℕ × E)) → Fits a d j v → HasJoined d.joined log → KnowsJoined v log
  knows_joined d j v log fit past first k p at_k = past k p (ap (λ l. get_elem? l k) (sym (fit.first first).2) ∙ at_k)

  knows_strangers : (d : Moment E) (j : ℕ) (v : View T E) (log : List (ℕ × E)) → Fits a d j v → NoneAbove d.splits log → KnowsStrangers v log
  knows_strangers d j v log fit strangers first n out = strangers n (subst (λ (k : ℕ). k < n) (fit.first first).1 out)

  pub learns : (n id : ℕ) (m : Sat T E) → m.0.about ≡ Some a → Allows Rule n id m 0 (λ y. y) (learned (step n 0 0 0 none) m)
  learns n id m live s o slots me small = let fit = o.fits id m.0 me in (
    m.0,
    keeps,
    tt,
    unchanged s o 0 id m.0 me,
    (
      refl,
      fit.heard,
      (fit.own a live).2,
      (λ first. knows_joined o.now id m.0 m.0.seen fit (fit.first first).3 first),
      λ first n out.
          let none-there = o.strangers n (subst (λ (k : ℕ). k < n) (fit.first first).1 out) in
          none_before n o.now.log m.0.seen none-there fit.sees,
    ),
  )

  after_limit : (old : ℕ) (v : View T E) (r : ℕ) → v.about ≡ Some a → r ≡ a.limit → after_draw old v r ≡ record v { worn = true }
  after_limit old v r live e = ap (λ b. cond b (record v { worn = true }) (cond (eqb r old) (record v { tickets = r ∷ [] }) v)) (eq-eqb r (limit_of v.about) (e ∙ sym (ap limit_of live)))

  after_other : (old : ℕ) (v : View T E) (r : ℕ) → v.about ≡ Some a → r ≢ a.limit → after_draw old v r ≡ cond (eqb r old) (record v { tickets = r ∷ [] }) v
  after_other old v r live ne = ap (λ b. cond b (record v { worn = true }) (cond (eqb r old) (record v { tickets = r ∷ [] }) v)) (ne_eqb r (limit_of v.about) (λ e. ne (e ∙ ap limit_of live)))

  pub after_hit : (old : ℕ) (v : View T E) (r : ℕ) → v.about ≡ Some a → r ≢ a.limit → r ≡ old → after_draw old v r ≡ record v { tickets = r ∷ [] }
  after_hit old v r live ne e = after_other old v r live ne ∙ ap (λ b. cond b (record v { tickets = r ∷ [] }) v) (eq-eqb r old e)

  pub after_miss : (old : ℕ) (v : View T E) (r : ℕ) → v.about ≡ Some a → r ≢ a.limit → r ≢ old → after_draw old v r ≡ v
  after_miss old v r live ne other = after_other old v r live ne ∙ ap (λ b. cond b (record v { tickets = r ∷ [] }) v) (ne_eqb r old other)

  -- the limit was found: the seat notes it
  marks : (s : St T E) (o : Rule s) (id : ℕ) (v : View T E) → get_elem? s.views id ≡ some v → a.limit ≤ o.now.ticket → Rule (cell s.words s.homes (set s.views id (record v { worn = true })))
  marks s o id v me reached = let fit = o.fits id v me in
      kept stands lasting a s o id v (record v { worn = true }) o.now s.words s.homes me (refl, refl) (refl, refl) o.words o.few o.slots
      (λ k u ne at_k. o.fits k u at_k)
      (record { sees = fit.sees; own = fit.own; worn = λ _. reached; holds = fit.holds; counts = fit.counts; spent = fit.spent; heard = fit.heard; first = fit.first })
      (λ f. omega arith) (omega arith)
      (λ free. o.home (λ k u at_k. dite (ℕ_discrete k id)
      (λ e. ap (λ (x : View T E). x.holds) (sym (same_at s.views id k v u e me at_k)) ∙ free id (record v { worn = true }) (set_at s.views id v (record v { worn = true }) me))
      (λ ne. free k u (set_else s.views id k (record v { worn = true }) ne ∙ at_k))))
      o.past o.strangers

  -- a ticket was drawn
  takes_ticket : (s : St T E) (o : Rule s) (id : ℕ) (v : View T E) (r : ℕ) → get_elem? s.views id ≡ some v → v.about ≡ Some a → v.tickets ≡ [] → v.holds ≡ false → r ≡ o.now.ticket → r < a.limit
      → Rule (cell (set s.words 0 (r + 1)) s.homes (set s.views id (record v { tickets = r ∷ [] })))
  takes_ticket s o id v r me live none-yet out is below_limit = let fit = o.fits id v me in
      let w : View T E = record v { tickets = r ∷ [] } in
      let d : Moment E = record o.now { ticket = r + 1 } in
      kept stands lasting a s o id v w d (set s.words 0 (r + 1)) s.homes me (refl, refl) (refl, refl)
      (ap (λ (ws : List ℕ). set ws 0 (r + 1)) o.words) (omega arith) o.slots
      (λ k u ne at_k. let f = o.fits k u at_k in record { sees = f.sees; own = f.own; worn = λ h. let reached = f.worn h in omega arith; holds = f.holds; counts = f.counts; spent = f.spent; heard = f.heard; first = f.first })
      (record { sees = fit.sees; own = fit.own; worn = λ h. let reached = fit.worn h in omega arith; holds = λ h. absurd (true≢false (sym h ∙ out)); counts = fit.counts; spent = λ h. absurd (live_spent live h); heard = fit.heard; first = fit.first })
      (λ f. let none-before : sum_by f v.tickets ≡ 0 = ap (sum_by f) none-yet in omega (arith, below_next f r, ap (below f) is, ap f is)) (omega arith)
      (λ free. o.home (λ k u at_k. dite (ℕ_discrete k id)
      (λ e. ap (λ (x : View T E). x.holds) (sym (same_at s.views id k v u e me at_k)) ∙ out)
      (λ ne. free k u (set_else s.views id k w ne ∙ at_k))))
      o.past o.strangers

  pub draws : (n id : ℕ) (m : Sat T E) (old new : ℕ) → m.0.about ≡ Some a → m.0.tickets ≡ [] → m.0.holds ≡ false → (old < a.limit → new ≡ old + 1) → (a.limit ≤ old → new ≡ old)
      → Allows Rule n id m 0 (λ y. either (eqb y old) new y) (drew (step n 0 old new none) m)
  draws n id m old new live none-yet out up stay s o slots me small =
      let r : ℕ = get_or s.words 0 0 in
      let is : r ≡ o.now.ticket = ap (λ (ws : List ℕ). get_or ws 0 0) o.words in
      let few = o.few in
      let w : View T E = after_draw old m.0 r in
      let same : set s.words 0 r ≡ s.words = set-get_or s.words 0 0 in
      let Goal : View T E → ℕ → Type 0 = λ u x. Rule (cell (set s.words 0 x) s.homes (set s.views id u)) in
      let at_limit : r ≡ a.limit → Goal w r = λ e. subst (λ (u : View T E). Goal u r) (sym (after_limit old m.0 r live e))
      (subst (λ (ws : List ℕ). Rule (cell ws s.homes (set s.views id (record m.0 { worn = true })))) (sym same) (marks s o id m.0 me (omega arith))) in
      let hit : r ≡ old → Goal w new = λ e. dite (ℕ_discrete r a.limit)
      (λ l. subst (λ (x : ℕ). Goal w x) (e ∙ sym (stay (omega arith))) (at_limit l))
      (λ ne. subst (λ (x : ℕ). Goal w x) (ap (λ x. x + 1) e ∙ sym (up (omega arith)))
      (subst (λ (u : View T E). Goal u (r + 1)) (sym (after_hit old m.0 r live ne e)) (takes_ticket s o id m.0 r me live none-yet out is (omega arith)))) in
      let miss : r ≢ old → Goal w r = λ other. dite (ℕ_discrete r a.limit)
      at_limit
      (λ ne. subst (λ (u : View T E). Goal u r) (sym (after_miss old m.0 r live ne other)) (unchanged s o 0 id m.0 me)) in
      (w, keeps, tt, exchanged r old new (λ x. Goal w x) hit miss, refl)

  pub looks : (n id : ℕ) (m : Sat T E) (t : ℕ) → m.0.about ≡ Some a → m.0.tickets ≡ t ∷ [] → m.0.holds ≡ false → Allows Rule n id m 1 (λ y. y) (looked stands lasting (step n 1 0 0 none) m)
  looks n id m t live has out s o slots me small =
      let r : ℕ = get_or s.words 1 0 in
      let is : r ≡ o.now.serving = ap (λ (ws : List ℕ). get_or ws 1 0) o.words in
      let only-ticket : (k : ℕ) → m.0.tickets ≡ k ∷ [] → t ≡ k = λ k at. let both = sym has ∙ at in cc in
      dite (ℕ_discrete r t)
      (λ e.
      let fit = o.fits id m.0 me in
      let log : List (ℕ × E) = o.now.log in
      let turn : m.0.tickets ≡ o.now.serving ∷ [] = has ∙ ap (λ k. k ∷ []) (sym e ∙ is) in
      let got = o.home (λ k u at_k. dite (ℕ_discrete k id)
      (λ e'. ap (λ (x : View T E). x.holds) (sym (same_at s.views id k m.0 u e' me at_k)) ∙ out)
      (λ ne. none_holds stands lasting a s o id m.0 me turn k u ne at_k)) in
      let x : T = got.0 in
      let w : View T E = holding m.0 log in
      let long = log_length stands lasting a s o id m.0 me turn (fit.counts out) in
      let near = ticket_below stands lasting a s o id o.now.serving m.0 me turn in
      let few = o.few in let limited = o.small in (
        w,
        takes 0 (Some x),
        got.1,
        kept stands lasting a s o id m.0 w o.now (set s.words 1 r) (set s.homes 0 none) me (refl, refl) (refl, refl)
            (set-get_or s.words 1 0 ∙ o.words) o.few (length-set s.homes 0 none ∙ o.slots)
            (λ k u ne at_k. o.fits k u at_k)
            (record {
              sees = ([], sym (append-nil log));
              own = λ b at_b. let f = fit.own b at_b in (f.0, f.1, f.1);
              worn = fit.worn;
              holds = λ _. (turn, refl);
              counts = λ h. absurd (true≢false h);
              spent = λ h. absurd (live_spent live h);
              heard = λ k l at_k. starts_through log m.0.seen l fit.sees (fit.heard k l at_k);
              first = λ h. let f = fit.first h in (f.0, f.1, f.2, o.past);
            })
            (λ f. omega arith) (omega arith)
            (λ free. absurd (true≢false (free id w (set_at s.views id m.0 w me))))
            o.past o.strangers,
        λ k at_k. (
          (λ _. (
            x,
            log,
            refl,
            got.2,
            (λ b at_b. subst (λ (c : Terms T). (lasting x ≡ lasting c.first.value) × (length log < c.limit) × (c.limit ≤ 2 ^ 62)) (same_Some a b (sym live ∙ at_b)) (got.3, omega arith, o.small)),
            (fit.sees, (fit.own a live).1 ∙ sym (fit.own a live).2),
            knows_joined o.now id m.0 log fit o.past,
            knows_strangers o.now id m.0 log fit o.strangers,
          )),
          λ other. absurd (other (e ∙ only-ticket k at_k)),
        ),
      ))
      (λ other. (m.0, keeps, tt, unchanged s o 1 id m.0 me, λ k at_k. ((λ e. absurd (other (e ∙ sym (only-ticket k at_k)))), λ _. refl)))

  pub counts : (n id : ℕ) (m : Sat T E) (said : Option E) (e : E) → said ≡ Some e → m.0.about ≡ Some a → m.0.holds ≡ true → m.0.counted ≡ 0
      → Allows Rule n id m 2 (λ y. (y + 1) % 2 ^ 64) (counted_as said (step n 2 1 0 none) m)
  counts n id m said e says live holds uncounted s o slots me small =
      let fit = o.fits id m.0 me in let has = fit.holds holds in
      let log : List (ℕ × E) = o.now.log in
      let x : ℕ × E = (m.0.number, e) in
      let w : View T E = counting m.0 e in
      let r : ℕ = get_or s.words 2 0 in
      let is : r ≡ length log = ap (λ (ws : List ℕ). get_or ws 2 0) o.words in
      let long = log_length stands lasting a s o id m.0 me has.0 uncounted in
      let near = ticket_below stands lasting a s o id o.now.serving m.0 me has.0 in
      let few = o.few in let limited = o.small in
      let longer_by_one : length (log ++ x ∷ []) ≡ length log + 1 = length-append log (x ∷ []) in
      let next : (r + 1) % 2 ^ 64 ≡ length (log ++ x ∷ []) = omega arith in
      let d : Moment E = record o.now { log = log ++ x ∷ [] } in
      let still_joined : (l : List (ℕ × E)) → HasJoined o.now.joined l → HasJoined o.now.joined (l ++ x ∷ []) =
      λ l past k p at_k. by-other p.0 l x (joined_apart stands lasting a s o id k m.0 p a me live at_k) ∙ past k p at_k in
      let still_none : NoneAbove o.now.splits (log ++ x ∷ []) =
      λ k out. by-other k log x (λ same. let le = number_le stands lasting a s o id m.0 a me live in absurd (omega arith)) ∙ o.strangers k out in
      let seen_whole : m.0.seen ++ x ∷ [] ≡ log ++ x ∷ [] = ap (λ l. l ++ x ∷ []) has.1 in (
        w,
        keeps,
        tt,
        kept stands lasting a s o id m.0 w d (set s.words 2 ((r + 1) % 2 ^ 64)) s.homes me (refl, refl) (refl, refl)
            (ap (λ (ws : List ℕ). set ws 2 ((r + 1) % 2 ^ 64)) o.words ∙ ap (λ i. o.now.ticket ∷ o.now.serving ∷ i ∷ []) next) o.few o.slots
            (λ k u ne at_k. let f = o.fits k u at_k in record {
              sees = starts_more log u.seen (x ∷ []) f.sees;
              own = λ b at_u. let own = f.own b at_u in (own.0, by-other u.number log x (λ same. apart stands lasting a s o id k m.0 u a b ne me at_k live at_u same) ∙ own.1, own.2);
              worn = f.worn;
              holds = λ h. absurd (true≢false (sym h ∙ none_holds stands lasting a s o id m.0 me has.0 k u ne at_k));
              counts = f.counts;
              spent = f.spent;
              heard = f.heard;
              first = f.first;
            })
            (record {
              sees = ([], sym seen_whole ∙ sym (append-nil (m.0.seen ++ x ∷ [])));
              own = λ b at_b. let own = fit.own b at_b in (
                own.0,
                by-own m.0.number log x refl ∙ ap (λ l. l ++ x ∷ []) own.1,
                by-own m.0.number m.0.seen x refl ∙ ap (λ l. l ++ x ∷ []) own.2,
              );
              worn = fit.worn;
              holds = λ _. (has.0, seen_whole);
              counts = λ h. absurd (true≢false (sym holds ∙ h));
              spent = λ h. absurd (live_spent live h);
              heard = λ k l at_k. starts_more m.0.seen l (x ∷ []) (fit.heard k l at_k);
              first = λ h. let f = fit.first h in (f.0, f.1, f.2, still_joined m.0.seen f.3);
            })
            (λ f. omega arith) (omega arith)
            (λ free. absurd (true≢false (sym holds ∙ free id w (set_at s.views id m.0 w me))))
            (still_joined log o.past) still_none,
        λ e' says'. (
          ap (λ (c : E). (counting m.0 c, m.1)) (same_Some e e' (sym says ∙ says')),
          subst (λ (c : E). KnowsJoined m.0 (m.0.seen ++ (m.0.number, c) ∷ [])) (same_Some e e' (sym says ∙ says'))
              (λ first. knows_joined o.now id m.0 (m.0.seen ++ x ∷ []) fit (still_joined m.0.seen (fit.first first).3) first),
          subst (λ (c : E). KnowsStrangers m.0 (m.0.seen ++ (m.0.number, c) ∷ [])) (same_Some e e' (sym says ∙ says'))
              (subst (λ (l : List (ℕ × E)). KnowsStrangers m.0 l) (sym seen_whole) (knows_strangers o.now id m.0 (log ++ x ∷ []) fit still_none)),
        ),
      )

  -- the seat puts back a value that stands for all that it has seen
  pub serves : (n id : ℕ) (v : View T E) (y : T) → v.about ≡ Some a → v.holds ≡ true → v.counted ≡ 1 → stands y v.seen → lasting y ≡ lasting a.first.value
      → Allows Rule n id (v, (0, Some y) ∷ []) 1 (λ k. (k + 1) % 2 ^ 64) (served (step n 1 1 0 none) (v, (0, Some y) ∷ []))
  serves n id v y live holds counted stood lasts s o slots me small =
      let fit = o.fits id v me in let has = fit.holds holds in
      let log : List (ℕ × E) = o.now.log in
      let w : View T E = leaving v in
      let r : ℕ = get_or s.words 1 0 in
      let is : r ≡ o.now.serving = ap (λ (ws : List ℕ). get_or ws 1 0) o.words in
      let near = ticket_below stands lasting a s o id o.now.serving v me has.0 in
      let few = o.few in let limited = o.small in let one = o.slots in
      let next : (r + 1) % 2 ^ 64 ≡ o.now.serving + 1 = omega arith in
      let d : Moment E = record o.now { serving = o.now.serving + 1 } in (
        w,
        gives,
        tt,
        kept stands lasting a s o id v w d (set s.words 1 ((r + 1) % 2 ^ 64)) (set s.homes 0 (some (Some y))) me (refl, refl) (refl, refl)
            (ap (λ (ws : List ℕ). set ws 1 ((r + 1) % 2 ^ 64)) o.words ∙ ap (λ i. o.now.ticket ∷ i ∷ length log ∷ []) next) o.few (length-set s.homes 0 (some (Some y)) ∙ o.slots)
            (λ k u ne at_k. let f = o.fits k u at_k in record {
              sees = f.sees;
              own = f.own;
              worn = f.worn;
              holds = λ h. absurd (true≢false (sym h ∙ none_holds stands lasting a s o id v me has.0 k u ne at_k));
              counts = f.counts;
              spent = f.spent;
              heard = f.heard;
              first = f.first;
            })
            (record {
              sees = fit.sees;
              own = fit.own;
              worn = fit.worn;
              holds = λ h. absurd (true≢false (sym h));
              counts = λ _. refl;
              spent = λ h. absurd (live_spent live h);
              heard = fit.heard;
              first = fit.first;
            })
            (λ f. let had = ap (sum_by f) has.0 in omega (arith, below_next f o.now.serving)) (omega arith)
            (λ free. (y, set_here s.homes 0 (some (Some y)) (omega arith), subst (λ (l : List (ℕ × E)). stands y l) has.1 stood, lasts))
            o.past o.strangers,
        refl,
      )
