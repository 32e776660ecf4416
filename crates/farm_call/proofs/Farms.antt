-- From what was done of a farm that has served to what is promised of it.
use Rattle.std.proofs.Common.{◌≡◌, ℕ, ◌⊎◌, inl, inr, ◌≤◌, ◌^◌, Bool, true, false, not, ◌||◌, if◌then◌else◌, List, [], ◌∷◌, ◌++◌, length, map, reverse, refl, sym, ap, ap₂, subst, ◌∙◌}
use Rattle.std.specs.Prelude.{Option, Some, None, Result, Ok, Err, IfSome, option_map, is_some, is_none}
use Rattle.std.specs.List.{list_any}
use Rattle.std.proofs.lemmas.Bool.{or_cases, not-true, or_parts}
use Rattle.farm_base.specs.Outside.{Outside}
use Rattle.farm_base.specs.declared.sinks.SinkFault.{SinkFault}
use Rattle.tile_store.specs.Stores.{StoreTold, StorePuts, Stored, IfTold}
use Rattle.tile_store.specs.declared.stores.StoreFault.TheVariants.{Failed}
use Rattle.reactor_ports.specs.declared.ends.FrontDone.{FrontDone}
use Rattle.reactor_ports.specs.declared.ends.FrontEnd.{FrontEnd}
use Rattle.exit_status.specs.declared.stops.Stop.{Stop}
use Rattle.exit_status.specs.declared.stops.Stop.TheVariants as stop
use Rattle.farm_history.specs.declared.answers.Tally.{Tally as Totals}
use Rattle.farm_history.specs.Entries.{Entry, EachMoment}
use Rattle.farm_history.specs.Laws.{has_plain_update}
use Rattle.farm_history.specs.Replays.{Saving, IsSaved}
use Rattle.farm_history.specs.Rules.{Legal}
use Rattle.farm_plan.specs.Plans.{FarmPlan, maps_in}
use Rattle.farm_plan.specs.Drawings.{plan_of}
use Rattle.farm_files.specs.Inputs.{ServeInputs}
use Rattle.farm_saved.specs.Writing.{saved_bytes}
use Rattle.farm_refinement.specs.Seen.{FarmSeen}
use Rattle.farm_core.specs.Answers.{at_saved}
use Rattle.farm_core.specs.Begins.{Tells, origin}
use Rattle.farm_shared.specs.declared.lasting.LastingPart.{LastingPart}
use Rattle.farm_shared.specs.Seats.{plain}
use Rattle.farm_shared.specs.Shared.{lasting_of, past, MayTell}
use Rattle.turn_cell.specs.Turns.{by}
use Rattle.farm_laws.specs.Locality.{IsSentNow}
use Rattle.farm_laws.specs.Promise.{Promise}
use Rattle.farm_laws.proofs.Promised.{keeps as keeps_promise}
use Rattle.farm_runs.specs.Promise.{AreSeated, AreWorked, IsServed}
use Rattle.farm_call.specs.inner.Fronts.{renderd_leaves, tiles_leave}
use Rattle.front_loop.proofs.Leaves.{marked}
use Rattle.tile_paths.specs.Paths.{saved_path}
use Rattle.farm_call.specs.Beginnings.{HasEmptied, ResumesFrom}
use Rattle.farm_call.specs.Endings.{why_ended, is_front_worn, is_broken, is_wanting, end_after_put, TellsCounts}
use Rattle.farm_call.specs.Savings.{MaySave}
use Rattle.farm_call.proofs.Kept.{Keeps as KeepsFarm, keeps}
use Rattle.farm_call.specs.Serves.{fronts_of, end_of, is_worn_out, ClosedFarm, whole_history}
use Rattle.farm_call.specs.inner.Serving.{HasServed}
use Rattle.farm_call.specs.declared.left.Left.{Left}
use Rattle.farm_call.specs.declared.left.Left.TheVariants.{Farm}
use Rattle.farm_call.specs.Call.{CallBefore, CallAfter, store_of}
use Rattle.farm_call.specs.Served.{StoreTells, SavesSo, ServedWell}
use Rattle.farm_call.specs.inner.Works.{world_before, world_after}
use Rattle.farm_call.proofs.Owing.{none_left, paid_up}

-- ---- what a store holds after a put

-- where it tells, it holds this at the place of a saved farm
abbrev HoldsAt : Outside StoreTold → List ℕ → Type 0
HoldsAt at bytes = IfSome at.told (λ t. t.content saved_path ≡ Some bytes)

held_now : (told : Option StoreTold) (t : StoreTold) (bytes : List ℕ) → told ≡ Some t → t.content saved_path ≡ Some bytes → IfSome told (λ t. t.content saved_path ≡ Some bytes)
held_now told t bytes is held = subst (λ (o : Option StoreTold). IfSome o (λ t. t.content saved_path ≡ Some bytes)) (sym is) held

-- after a put there
holds_put : (old new : Outside StoreTold) (bytes : List ℕ) → StorePuts old new saved_path bytes (Ok tt) → HoldsAt new bytes
holds_put old new bytes puts = by_told old.told refl puts.0
  where
    by_told : (o : Option StoreTold) → old.told ≡ o → IfTold (record old { told = o }) new (λ before now. Stored before now saved_path bytes) → HoldsAt new bytes
    by_told None is none = subst (λ (o : Option StoreTold). IfSome o (λ t. t.content saved_path ≡ Some bytes)) (sym none) tt
    by_told (Some t) is told = held_now new.told told.0 bytes told.1 told.2.held

-- what stands there in a store that tells the same of it
same_there : (a b : Option StoreTold) (bytes : List ℕ) → option_map (λ t. t.content saved_path) a ≡ option_map (λ t. t.content saved_path) b → IfSome b (λ t. t.content saved_path ≡ Some bytes) → IfSome a (λ t. t.content saved_path ≡ Some bytes)
same_there None b bytes same held = tt
same_there (Some t) (Some u) bytes same held = let inside : t.content saved_path ≡ u.content saved_path = cc in inside ∙ held
same_there (Some t) None bytes same held = cc

-- ---- why a run ended

worn_first : (worn : Bool) (ends : List FrontEnd) → why_ended worn ends ≡ Err stop.TurnsUsedUp → (worn || list_any is_front_worn ends) ≡ true
worn_first worn ends is = by_test (worn || list_any is_front_worn ends) refl
  where
    by_test : (b : Bool) → (worn || list_any is_front_worn ends) ≡ b → (worn || list_any is_front_worn ends) ≡ true
    by_test true e = e
    by_test false e = absurd (rest (list_any is_broken ends) (list_any is_wanting ends) refl refl)
      where
        rest : (c d : Bool) → list_any is_broken ends ≡ c → list_any is_wanting ends ≡ d → ⊥
        rest true d p q = cc
        rest false true p q = cc
        rest false false p q = cc

worn_end : (end : FrontEnd) → is_front_worn end ≡ true → end ≡ FrontEnd.Worn
worn_end FrontEnd.Worn is = refl
worn_end FrontEnd.Finished is = cc
worn_end FrontEnd.Stopped is = cc
worn_end FrontEnd.Broken is = cc
worn_end FrontEnd.NoMemory is = cc

none_there : {A : Type 0} (o : Option A) → is_none o ≡ true → o ≡ None
none_there None is = refl
none_there (Some x) is = cc

-- ---- a run that ended in order

abbrev InOrder : FrontEnd → Type 0
InOrder end = (end ≡ FrontEnd.Finished) ⊎ (end ≡ FrontEnd.Stopped)

in_order : (end : FrontEnd) → is_front_worn end ≡ false → is_broken end ≡ false → is_wanting end ≡ false → InOrder end
in_order FrontEnd.Finished a b c = inl refl
in_order FrontEnd.Stopped a b c = inr refl
in_order FrontEnd.Worn a b c = cc
in_order FrontEnd.Broken a b c = cc
in_order FrontEnd.NoMemory a b c = cc

abbrev pick : Bool → Bool → Bool → Result (Unit {0}) Stop
pick a b c = if a then Err stop.TurnsUsedUp else (if b then Err stop.PortsFailed else (if c then Err stop.NoMemory else Ok tt))

none_of : (a b c : Bool) → pick a b c ≡ Ok tt → (a ≡ false) × (b ≡ false) × (c ≡ false)
none_of false false false e = (refl, refl, refl)
none_of true b c e = cc
none_of false true c e = cc
none_of false false true e = cc

all_in_order : (worn : Bool) (a b c : FrontEnd) → why_ended worn (a ∷ b ∷ c ∷ []) ≡ Ok tt → InOrder a × InOrder b × InOrder c
all_in_order worn a b c e =
    let none = none_of (worn || list_any is_front_worn (a ∷ b ∷ c ∷ [])) (list_any is_broken (a ∷ b ∷ c ∷ [])) (list_any is_wanting (a ∷ b ∷ c ∷ [])) e in
    let w = or_parts (is_front_worn a) _ (or_parts worn _ none.0).1 in
    let b' = or_parts (is_broken a) _ none.1 in
    let n = or_parts (is_wanting a) _ none.2 in
    let w' = or_parts (is_front_worn b) _ w.1 in
    let b'' = or_parts (is_broken b) _ b'.1 in
    let n' = or_parts (is_wanting b) _ n.1 in (
      in_order a w.0 b'.0 n.0,
      in_order b w'.0 b''.0 n'.0,
      in_order c (or_parts (is_front_worn c) _ w'.1).0 (or_parts (is_broken c) _ b''.1).0 (or_parts (is_wanting c) _ n'.1).0,
    )

module _ {D : Type 0} (state : D → Outside StoreTold) (was : CallBefore D) (is : CallAfter D) (s : ServeInputs) (closed : ClosedFarm D) (left_is : is.left ≡ Farm closed) (end : Result (Unit {0}) Stop)
    (served : HasServed state s was.store closed (world_before was) (world_after is) end) where
  abbrev H : List (ℕ × Entry)
  H = closed.1

  abbrev whole : List Entry
  whole = whole_history state closed.0 closed.1

  -- ---- the farm that is left, beside the one that began

  kept : KeepsFarm state served.last closed.0 H
  kept = keeps state served.last closed.0 H s.config.resume _ served.winds.saved served.winds.saves served.runs.after

  plan_last : closed.0.plan ≡ served.last.plan
  plan_last = ap (λ (f : FarmSeen D). f.plan) kept.same

  plan_left : closed.0.plan ≡ s.inputs.plan
  plan_left = plan_last ∙ ap (λ (p : LastingPart D). p.plan) served.runs.kept ∙ served.begun.plan_is

  plan_first : served.first.plan ≡ closed.0.plan
  plan_first = served.begun.plan_is ∙ sym plan_left

  saved_left : closed.0.saved ≡ served.first.saved
  saved_left = ap (λ (f : FarmSeen D). f.saved) kept.same ∙ ap (λ (p : LastingPart D). p.saved) served.runs.kept

  first_left : state closed.0.first ≡ state was.store
  first_left = ap (λ (f : FarmSeen D). state f.first) kept.same ∙ ap (λ (p : LastingPart D). state p.first) served.runs.kept ∙ served.begun.first_shows

  whole_first : past (lasting_of state served.first) H ≡ whole
  whole_first = ap₂ (λ (p : FarmPlan) (o : Option Saving). plain (reverse H) ++ origin p o) plan_first (sym saved_left)

  whole_last : past (lasting_of state served.last) H ≡ whole
  whole_last = ap (λ (p : LastingPart D). past p H) served.runs.kept ∙ whole_first

  may_first : (told : Bool) → (told ≡ true → StoreTells state was is closed.0) → MayTell state (lasting_of state served.first) told
  may_first told may e =
      let same : Tells (state was.store) closed.0.plan closed.0.saved ≡ Tells (state served.first.first) served.first.plan served.first.saved =
      ap₂ (λ (p : FarmPlan) (o : Option Saving). Tells (state was.store) p o) (sym plan_first) saved_left
      ∙ ap (λ (at : Outside StoreTold). Tells at served.first.plan served.first.saved) (sym served.begun.first_shows)
      in
      subst (λ (T : Type 0). T) same (may e)

  may_left : (told : Bool) → (told ≡ true → StoreTells state was is closed.0) → MayTell state (lasting_of state closed.0) told
  may_left told may e = subst (λ (at : Outside StoreTold). Tells at closed.0.plan closed.0.saved) (sym first_left) (may e)

  -- ---- the headline, and points 1 to 5

  legal : (told : Bool) → (told ≡ true → StoreTells state was is closed.0) → Legal (plan_of closed.0.plan) told whole
  legal told may = (kept.after.each told (may_left told may)).legal

  untold : false ≡ true → StoreTells state was is closed.0
  untold never = cc

  promised : (tells : Type 0) → (tells → StoreTells state was is closed.0) → Promise closed.0.plan tells whole
  promised tells may = keeps_promise closed.0.plan tells false whole (kept.after.each false (may_left false untold)).valid (legal false untold) (λ t. legal true (λ is. may t))

  pub headline : Promise closed.0.plan ((closed.0.saved ≡ None) × (is_some (state was.store).told ≡ true)) whole
  headline = promised _ (λ t. subst (Tells (state was.store) closed.0.plan) (sym t.0) t.1)

  pub resumed : Promise closed.0.plan (StoreTells state was is closed.0) whole
  resumed = promised _ (λ tells. tells)

  pub sent_now : StoreTells state was is closed.0 → has_plain_update whole ≡ false → EachMoment (IsSentNow closed.0.plan) whole
  sent_now tells renewed =
      subst (λ (p : FarmPlan). EachMoment (IsSentNow p) whole) plan_first
      (subst (EachMoment (IsSentNow served.first.plan)) whole_first
      (served.runs.sent_now (may_first true (λ is. tells) refl) (subst (λ (g : List Entry). has_plain_update g ≡ false) (sym whole_first) renewed)))

  resumes : ResumesFrom (state was.store) closed.0.plan s.config.resume closed.0.saved
  resumes =
      subst (λ (p : FarmPlan). ResumesFrom (state was.store) p s.config.resume closed.0.saved) (sym plan_left)
      (subst (λ (o : Option Saving). ResumesFrom (state was.store) s.inputs.plan s.config.resume o) (sym saved_left) served.begun.resumes)

  owned : AreSeated closed.0.plan.workers served.ends H
  owned = subst (λ (p : FarmPlan). AreSeated p.workers served.ends H) plan_first served.runs.seated

  renderd : IsServed (renderd_leaves (maps_in closed.0.plan)) served.listening.renderd is.ports.renderd served.done.renderd (plain (by 1 H)) (length H)
  renderd =
      subst (λ (p : FarmPlan). IsServed (renderd_leaves (maps_in p)) served.listening.renderd is.ports.renderd served.done.renderd (plain (by 1 H)) (length H)) (sym plan_left)
      served.runs.renderd

  tiles : IsServed (tiles_leave (maps_in closed.0.plan)) served.listening.tiles is.ports.tiles served.done.tiles (plain (by 2 H)) (length H)
  tiles =
      subst (λ (p : FarmPlan). IsServed (tiles_leave (maps_in p)) served.listening.tiles is.ports.tiles served.done.tiles (plain (by 2 H)) (length H)) (sym plan_left)
      served.runs.tiles

  worked : AreWorked closed.0.plan.workers served.ends.worn H whole
  worked =
      subst (λ (p : FarmPlan). AreWorked p.workers served.ends.worn H whole) plan_first
      (subst (AreWorked served.first.plan.workers served.ends.worn H) whole_first served.runs.worked)

  -- ---- what was saved

  emptied : s.config.resume ≡ true → HoldsAt (state served.first.store) []
  emptied resumes = holds_put (state was.store) (state served.first.store) [] (subst (λ (b : Bool). HasEmptied b (state was.store) (state served.first.store)) resumes served.begun.emptied)

  still_empty : s.config.resume ≡ true → HoldsAt (state served.last.store) []
  still_empty resumes = same_there (state served.last.store).told (state served.first.store).told [] (ap (λ (p : LastingPart D). p.beside) served.runs.kept) (emptied resumes)

  at_left : (P : Outside StoreTold → Type 0) → P (state closed.0.store) → P (state (store_of is.left))
  at_left P h = subst (λ (l : Left D). P (state (store_of l))) (sym left_is) h

  saved_now : (saving : Saving) → IsSaved (plan_of served.last.plan) (past (lasting_of state served.last) H) saving → IsSaved (plan_of closed.0.plan) whole saving
  saved_now saving h =
      subst (λ (p : FarmPlan). IsSaved (plan_of p) whole saving) (sym plan_last)
      (subst (λ (g : List Entry). IsSaved (plan_of served.last.plan) g saving) whole_last h)

  saves_as : (resume : Bool) (why saved : Result (Unit {0}) Stop) → s.config.resume ≡ resume → MaySave state resume why served.last closed.0 H saved → SavesSo state was is closed.0.plan whole resume why saved
  saves_as true (Ok done) (Ok u) e may = (
    may.went.saving,
    saved_now may.went.saving may.went.saved,
    may.went.reads,
    at_left (λ at. HoldsAt at (saved_bytes may.went.saving)) (holds_put (state served.last.store) (state closed.0.store) (saved_bytes may.went.saving) may.went.puts),
  )
  saves_as true (Ok done) (Err stop.StoreFailed) e may = record {
    saving = may.went.saving;
    is_saved = saved_now may.went.saving may.went.saved;
    before = state served.last.store;
    puts = at_left (λ at. StorePuts (state served.last.store) at saved_path (saved_bytes may.went.saving) (Err Failed)) may.went.puts;
  }
  saves_as true (Ok done) (Err stop.NoMemory) e may = at_left (λ at. HoldsAt at []) (subst (λ (at : Outside StoreTold). HoldsAt at []) (sym may.went) (still_empty e))
  saves_as true (Ok done) (Err stop.PortsFailed) e may = may.went
  saves_as true (Ok done) (Err stop.TurnsUsedUp) e may = may.went
  saves_as true (Ok done) (Err (stop.Refused line)) e may = may.went
  saves_as true (Ok done) (Err stop.Words) e may = may.went
  saves_as true (Ok done) (Err (stop.Unreadable line)) e may = may.went
  saves_as true (Ok done) (Err stop.SinkFailed) e may = may.went
  saves_as false (Ok done) saved e may = may.1
  saves_as true (Err w) saved e may = (may.1, λ r. at_left (λ at. HoldsAt at []) (subst (λ (f : FarmSeen D). HoldsAt (state f.store) []) (sym may.0) (still_empty e)))
  saves_as false (Err w) saved e may = (may.1, λ r. absurd (cc))

  abbrev why_by : List FrontDone → Result (Unit {0}) Stop
  why_by fronts = why_ended (is_worn_out served.ends) (map end_of fronts)

  saves : SavesSo state was is closed.0.plan whole s.config.resume (why_by is.fronts) served.winds.saved
  saves =
      subst (λ (fs : List FrontDone). SavesSo state was is closed.0.plan whole s.config.resume (why_by fs) served.winds.saved) (sym served.fronts_are)
      (saves_as s.config.resume (why_by (fronts_of served.done)) served.winds.saved refl served.winds.saves)

  -- ---- what is not to be saved

  begun_same : s.config.resume ≡ false → state served.first.store ≡ state was.store
  begun_same none = subst (λ (b : Bool). HasEmptied b (state was.store) (state served.first.store)) none served.begun.emptied

  left_same : (resume : Bool) (why saved : Result (Unit {0}) Stop) → MaySave state resume why served.last closed.0 H saved → resume ≡ false → closed.0 ≡ served.last
  left_same false (Ok done) saved may none = may.0
  left_same false (Err w) saved may none = may.0
  left_same true why saved may none = cc

  unsaved : s.config.resume ≡ false → at_saved (state (store_of is.left)) ≡ at_saved (state was.store)
  unsaved none =
      at_left (λ at. at_saved at ≡ at_saved (state was.store))
      (ap (λ (f : FarmSeen D). at_saved (state f.store)) (left_same s.config.resume _ served.winds.saved served.winds.saves none)
      ∙ (ap (λ (p : LastingPart D). p.beside) served.runs.kept ∙ ap at_saved (begun_same none)))

  -- ---- all turns were drawn

  -- a front that ended worn met that
  front_worn : (list_any is_front_worn (map end_of (fronts_of served.done))) ≡ true → 2 ^ 62 ≤ length H
  front_worn any =
      elim (or_cases (is_front_worn served.done.renderd.end) _ any) [
        | inl r ↦ served.runs.renderd.worn_out (marked _ _ _ _ _ _ served.runs.renderd.left (worn_end _ r))
        | inr rest ↦
            elim (or_cases (is_front_worn served.done.tiles.end) _ rest) [
              | inl t ↦ served.runs.tiles.worn_out (marked _ _ _ _ _ _ served.runs.tiles.left (worn_end _ t))
              | inr last ↦
                  elim (or_cases (is_front_worn served.done.control.end) _ last) [
                    | inl k ↦ served.runs.control.worn_out (marked _ _ _ _ _ _ served.runs.control.left (worn_end _ k))
                    | inr none ↦ absurd (cc)
                  ]
            ]
      ]

  own_worn : is_worn_out served.ends ≡ true → 2 ^ 62 ≤ length H
  own_worn any =
      elim (or_cases (served.ends.worn || not served.ends.stopped) (is_none served.ends.tally) any) [
        | inl rest ↦ elim (or_cases served.ends.worn (not served.ends.stopped) rest) [ inl w ↦ worked.worn_out w | inr n ↦ owned.unstopped (not-true _ n) ]
        | inr n ↦ owned.untallied (none_there _ n)
      ]

  by_worn : why_by (fronts_of served.done) ≡ Err stop.TurnsUsedUp → 2 ^ 62 ≤ length H
  by_worn e = elim (or_cases (is_worn_out served.ends) _ (worn_first (is_worn_out served.ends) (map end_of (fronts_of served.done)) e)) [ inl own ↦ own_worn own | inr front ↦ front_worn front ]

  by_saving : (resume : Bool) (why saved : Result (Unit {0}) Stop) → MaySave state resume why served.last closed.0 H saved → saved ≡ Err stop.TurnsUsedUp → why ≡ Err stop.TurnsUsedUp
  by_saving true (Ok done) (Ok u) may e = cc
  by_saving true (Ok done) (Err stop.TurnsUsedUp) may e = absurd may.went
  by_saving true (Ok done) (Err stop.NoMemory) may e = cc
  by_saving true (Ok done) (Err stop.PortsFailed) may e = cc
  by_saving true (Ok done) (Err (stop.Refused line)) may e = cc
  by_saving true (Ok done) (Err stop.Words) may e = cc
  by_saving true (Ok done) (Err (stop.Unreadable line)) may e = cc
  by_saving true (Ok done) (Err stop.SinkFailed) may e = cc
  by_saving true (Ok done) (Err stop.StoreFailed) may e = cc
  by_saving false (Ok done) saved may e = absurd (let f = sym may.1 ∙ e in cc)
  by_saving true (Err w) saved may e = sym may.1 ∙ e
  by_saving false (Err w) saved may e = sym may.1 ∙ e

  pub gone_turns : served.winds.saved ≡ Err stop.TurnsUsedUp → 2 ^ 62 ≤ length H
  gone_turns e = by_worn (by_saving s.config.resume (why_by (fronts_of served.done)) served.winds.saved served.winds.saves e)

  -- ---- nothing is owed

  saved_ok : end ≡ Ok tt → served.winds.saved ≡ Ok tt
  saved_ok e = by_tally served.ends.tally served.winds.told
    where
      by_put : (put : Result (Unit {0}) SinkFault) → end ≡ end_after_put put served.winds.saved → served.winds.saved ≡ Ok tt
      by_put (Ok done) f = sym f ∙ e
      by_put (Err fault) f = absurd (let g = sym f ∙ e in cc)

      by_tally : (o : Option Totals) → TellsCounts o was.out is.out served.winds.saved end → served.winds.saved ≡ Ok tt
      by_tally None line = sym line.1 ∙ e
      by_tally (Some a) line = by_put line.0 line.2

  ran_on : (resume : Bool) (why saved : Result (Unit {0}) Stop) → MaySave state resume why served.last closed.0 H saved → saved ≡ Ok tt → why ≡ Ok tt
  ran_on true (Ok done) saved may e = refl
  ran_on false (Ok done) saved may e = refl
  ran_on true (Err w) saved may e = absurd (let f = sym may.1 ∙ e in cc)
  ran_on false (Err w) saved may e = absurd (let f = sym may.1 ∙ e in cc)

  ended_well : end ≡ Ok tt → InOrder served.done.renderd.end × InOrder served.done.tiles.end × InOrder served.done.control.end
  ended_well e =
      all_in_order (is_worn_out served.ends) served.done.renderd.end served.done.tiles.end served.done.control.end
      (ran_on s.config.resume (why_by (fronts_of served.done)) served.winds.saved served.winds.saves (saved_ok e))

  -- ---- all of it

  pub served_well : ServedWell state was is s closed.0 closed.1 end
  served_well = record {
    plan_is = plan_left;
    first_is = first_left;
    resumes = resumes;
    stands = λ told may. kept.after.each told (may_left told may);
    seated = kept.after.seated;
    ends = served.ends;
    owned = owned;
    listening = served.listening;
    listens = served.listens;
    done = served.done;
    fronts_are = served.fronts_are;
    renderd = renderd;
    tiles = tiles;
    control = served.runs.control;
    worked = worked;
    stopped = served.runs.stops;
    saved = served.winds.saved;
    saves = saves;
    unsaved = unsaved;
    turns_gone = gone_turns;
    counted = served.winds.told;
    collected = λ before after n front answer.
        none_left (plan_of closed.0.plan) false H before after (origin closed.0.plan closed.0.saved) n front answer (legal false (λ e. absurd (cc)));
    owes_nothing = λ e. (let well = ended_well e in
        (paid_up _ _ _ _ _ _ _ _ renderd.left.served well.0, paid_up _ _ _ _ _ _ _ _ tiles.left.served well.1, paid_up _ _ _ _ _ _ _ _ served.runs.control.left.served well.2));
  }
