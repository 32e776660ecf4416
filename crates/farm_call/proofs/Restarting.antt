-- What a farm that goes on was told.
use Rattle.std.proofs.Common.{◌≡◌, ℕ, Bool, true, false, List, [], ◌∷◌, refl, sym, ap, subst, ◌∙◌}
use Rattle.std.specs.Prelude.{Option, Some, None, is_some, option_map, unwrap_or, Result, Ok, Err, IfSome}
use Rattle.std.specs.Result.{result_map_both}
use Rattle.farm_base.specs.Outside.{Outside}
use Rattle.farm_base.specs.declared.sinks.SinkFault.{SinkFault}
use Rattle.tile_store.specs.Stores.{StoreTold}
use Rattle.tile_paths.specs.Paths.{saved_path}
use Rattle.exit_status.specs.Ends.{SinkAt}
use Rattle.exit_status.specs.SavedFaults.{saved_text}
use Rattle.farm_history.specs.declared.answers.Tally.{Tally as Totals}
use Rattle.farm_history.specs.Entries.{Entry}
use Rattle.farm_history.specs.Lists.{Each}
use Rattle.farm_history.specs.Replays.{Saving, IsSaved, replay}
use Rattle.farm_plan.specs.Plans.{FarmPlan}
use Rattle.farm_plan.specs.Drawings.{plan_of}
use Rattle.farm_refinement.specs.Stands.{HoldsShown, StandsFor}
use Rattle.farm_saved.specs.Reading.{saved_in}
use Rattle.farm_saved.specs.Writing.{saved_bytes}
use Rattle.farm_saved.specs.declared.fault.SavedFault.{SavedFault}
use Rattle.reading.specs.Steps.{◌>>=◌}
use Rattle.render_jobs.specs.Faults.{resume_fault}
use Rattle.render_jobs.specs.declared.faults.ResumeFault.{ResumeFault}
use Rattle.farm_core.specs.Begins.{Tells}
use Rattle.farm_laws.specs.Promise.{Promise}
use Rattle.farm_laws.proofs.Promised.{keeps}
use Rattle.farm_files.specs.Course.{Course, made, Leads}
use Rattle.farm_files.specs.Inputs.{ServeInputs}
use Rattle.farm_files.proofs.Courses.{one_end}
use Rattle.farm_call.specs.Beginnings.{resume_text, resumed_by, IsSavedIn, ResumesFrom}
use Rattle.farm_call.specs.Endings.{end_after_put, TellsCounts}
use Rattle.farm_call.specs.Call.{CallBefore, CallAfter, End, Work, serves, store_of}
use Rattle.farm_call.specs.Words.{Asks}
use Rattle.farm_call.specs.Serves.{whole_history}
use Rattle.farm_call.specs.Served.{HoldsSaved, SavesSo}
use Rattle.farm_call.specs.Restart.{Run, GoesOn, GoOn, LawRestart, LawGoesOn}
use Rattle.farm_call.specs.Restart as restart
use Rattle.farm_call.specs.declared.left.Left.{Left}
use Rattle.farm_call.proofs.Asked.{asks_one}
use Rattle.farm_call.proofs.Keeping.{told}
use Rattle.farm_call.proofs.GoingOn.{goes_on}

-- a run that ended well was saved well
saved_ok : (o : Option Totals) (out out' : SinkAt) (saved : End) → TellsCounts o out out' saved (Ok tt) → saved ≡ Ok tt
saved_ok None out out' saved line = sym line.1
saved_ok (Some a) out out' saved line = by_put line.0 line.2
  where
    by_put : (put : Result (Unit {0}) SinkFault) → Ok tt ≡ end_after_put put saved → saved ≡ Ok tt
    by_put (Ok done) f = sym f
    by_put (Err fault) f = cc

-- what is read of a text is what it resumes from
resumed_from : (plan : FarmPlan) (bytes : List ℕ) (s x : Saving) → saved_in bytes ≡ Ok s → resumed_by plan (Some bytes) ≡ Ok (Some x) → x ≡ s
resumed_from plan [] s x reads is = cc
resumed_from plan (b ∷ bytes) s x reads is = by_read (saved_in (b ∷ bytes)) reads is
  where
    by_fault : (o : Option ResumeFault) → unwrap_or (option_map (λ why. Err (resume_text why)) o) (Ok (Some s)) ≡ Ok (Some x) → x ≡ s
    by_fault None e = cc
    by_fault (Some w) e = cc

    by_read : (r : Result Saving SavedFault) → r ≡ Ok s → (result_map_both (λ s. s) saved_text r >>= λ s. unwrap_or (option_map (λ why. Err (resume_text why)) (resume_fault plan s)) (Ok (Some s))) ≡ Ok (Some x) → x ≡ s
    by_read (Ok y) e is =
        let same : y ≡ s = cc in
        by_fault (resume_fault plan s) (subst (λ (z : Saving). unwrap_or (option_map (λ why. Err (resume_text why)) (resume_fault plan z)) (Ok (Some z)) ≡ Ok (Some x)) same is)
    by_read (Err w) e is = cc

-- what files that hold the same make of the same words is the same
same_content : {T : Type 0} (content : T → List ℕ → Option (List ℕ)) (o o' : Option T) → option_map content o' ≡ option_map content o → (t : T) → o ≡ Some t
    → (P : (List ℕ → Option (List ℕ)) → Type 0) → IfSome o' (λ u. P (content u)) → P (content t)
same_content content o None same t is P h = let e : None ≡ Some (content t) = same ∙ ap (option_map content) is in cc
same_content content o (Some u) same t is P h =
    let e : Some (content u) ≡ Some (content t) = same ∙ ap (option_map content) is in
    let held : content u ≡ content t = cc in
    subst P held h

module _ {D : Type 0} (state : D → Outside StoreTold) where
  module _ (was : CallBefore D) (is : CallAfter D) (plan : FarmPlan) (h : List Entry) where
    -- what was saved of a run that ended in order
    kept : (resume : Bool) (why saved : End) → resume ≡ true → saved ≡ Ok tt → SavesSo state was is plan h resume why saved
        → (s : Saving) × IsSaved (plan_of plan) h s × (saved_in (saved_bytes s) ≡ Ok s) × HoldsSaved state was is (saved_bytes s)
    kept true (Ok done) (Ok done') r o saves = saves
    kept true (Ok done) (Err w) r o saves = cc
    kept true (Err w) saved r o saves = absurd (let e = sym saves.0 ∙ o in cc)
    kept false why saved r o saves = cc

  module _ (first second : Run state) (g : GoesOn state first second) where
    -- the files make the same of both
    same_inputs : second.served.inputs ≡ first.served.inputs
    same_inputs =
        let a = first.served.asked in
        let b = second.served.asked in
        let held = told first.was.files.told (λ t. Leads t.content a.course (made (serves first.served.inputs))) g.files_tell a.leads in
        let other : Leads held.it.content b.course (made (serves second.served.inputs)) =
        same_content (λ t. t.content) first.was.files.told second.was.files.told g.same_files held.it held.is_told (λ (c : List ℕ → Option (List ℕ)). Leads c b.course (made (serves second.served.inputs))) b.leads in
        let asks : Asks first.was.words b.course = subst (λ (ws : List (List ℕ)). Asks ws b.course) g.same_words b.asks in
        let same : made (serves first.served.inputs) ≡ made (serves second.served.inputs) =
        one_end held.it.content a.course (made (serves first.served.inputs)) (made (serves second.served.inputs)) tt tt held.so
        (subst (λ (c : Course Work). Leads held.it.content c (made (serves second.served.inputs))) (asks_one first.was.words b.course a.course asks a.asks) other) in
        cc

    module _ (tells : restart.Tells state first) where
      abbrev plan : FarmPlan
      plan = first.farm.plan

      abbrev h : List Entry
      h = whole_history state first.farm first.turns

      stands : StandsFor state true first.farm h
      stands = first.served.well.stands true (λ e. tells)

      same_plan : second.farm.plan ≡ plan
      same_plan = second.served.well.plan_is ∙ ap (λ (s : ServeInputs). s.inputs.plan) same_inputs ∙ sym first.served.well.plan_is

      resumes : second.served.inputs.config.resume ≡ true
      resumes = ap (λ (s : ServeInputs). s.config.resume) same_inputs ∙ g.resume

      abbrev ended : End → Type 0
      ended end = TellsCounts first.served.well.ends.tally first.was.out first.is.out first.served.well.saved end

      saving : (s : Saving) × IsSaved (plan_of plan) h s × (saved_in (saved_bytes s) ≡ Ok s) × HoldsSaved state first.was first.is (saved_bytes s)
      saving = kept first.was first.is plan h first.served.inputs.config.resume _ first.served.well.saved g.resume
          (saved_ok first.served.well.ends.tally first.was.out first.is.out first.served.well.saved (subst ended g.ended first.served.well.counted)) first.served.well.saves

      abbrev s : Saving
      s = saving.0

      saved_there : IfSome (state first.farm.store).told (λ t. t.content saved_path ≡ Some (saved_bytes s))
      saved_there = subst (λ (l : Left D). IfSome (state (store_of l)).told (λ t. t.content saved_path ≡ Some (saved_bytes s))) first.left saving.3

      shown_there : IfSome (state first.farm.store).told (λ t. HoldsShown plan h t.content)
      shown_there = stands.store_is.holds refl

      found : IsSavedIn (state second.was.store) second.farm.plan (Ok second.farm.saved)
      found = subst (λ (b : Bool). ResumesFrom (state second.was.store) second.farm.plan b second.farm.saved) resumes second.served.well.resumes

      abbrev Told : Option StoreTold → FarmPlan → Option Saving → Type 0
      Told o p x = Tells (record { told = o; faults = (state second.was.store).faults }) p x

      -- over what both stores tell
      by_told : (a b : Option StoreTold) → option_map (λ t. t.content) b ≡ option_map (λ t. t.content) a → is_some a ≡ true → IfSome a (λ t. t.content saved_path ≡ Some (saved_bytes s)) → IfSome a (λ t. HoldsShown plan h t.content)
          → IfSome b (λ u. found.found ≡ u.content saved_path) → (x : Option Saving) → second.farm.saved ≡ x → Told b plan x
      by_told None b same is saved shown at x from = cc
      by_told (Some t) None same is saved shown at x from = cc
      by_told (Some t) (Some u) same is saved shown at None from = refl
      by_told (Some t) (Some u) same is saved shown at (Some x) from =
          let content : u.content ≡ t.content = cc in
          let text : found.found ≡ Some (saved_bytes s) = at ∙ (ap (λ (c : List ℕ → Option (List ℕ)). c saved_path) content ∙ saved) in
          let read : resumed_by second.farm.plan (Some (saved_bytes s)) ≡ Ok (Some x) = ap (resumed_by second.farm.plan) (sym text) ∙ (found.said ∙ ap (λ (o : Option Saving). Ok o) from) in
          let same_saving : x ≡ s = resumed_from second.farm.plan (saved_bytes s) s x saving.2 read in (
            refl,
            subst (λ (c : List ℕ → Option (List ℕ)). HoldsShown plan (replay (plan_of plan) x) c) (sym content)
                (subst (λ (y : Saving). HoldsShown plan (replay (plan_of plan) y) t.content) (sym same_saving)
                (goes_on plan true h s t.content stands.valid stands.legal saving.1 shown)),
          )

      told_on : restart.Tells state second
      told_on =
          subst (λ (p : FarmPlan). Tells (state second.was.store) p second.farm.saved) (sym same_plan)
          (by_told (state first.farm.store).told (state second.was.store).told g.same_store (stands.store_is.is_told refl) saved_there shown_there found.stands second.farm.saved refl)

  pub tells_on : LawRestart state
  tells_on first [] on tells = tt
  tells_on first (next ∷ later) on tells = let now = told_on first next on.0 tells in (now, tells_on next later on.1 now)

  -- the promise, where so much of the store follows from a premise
  promised : (r : Run state) (tells : Type 0) → (tells → restart.Tells state r) → Promise r.farm.plan tells (whole_history state r.farm r.turns)
  promised r tells may =
      let untold = r.served.well.stands false (λ e. absurd (cc)) in
      keeps r.farm.plan tells false (whole_history state r.farm r.turns) untold.valid untold.legal (λ t. (r.served.well.stands true (λ e. may t)).legal)

  each_promised : (tells : Type 0) (first : Run state) (later : List (Run state)) → GoOn state first later → (tells → restart.Tells state first)
      → Each (λ r. Promise r.farm.plan tells (whole_history state r.farm r.turns)) later
  each_promised tells first [] on may = tt
  each_promised tells first (next ∷ later) on may =
      let now : tells → restart.Tells state next = λ t. told_on first next on.0 (may t) in
      (promised next tells now, each_promised tells next later on.1 now)

  pub promise_on : LawGoesOn state
  promise_on first later on anew = each_promised (is_some (state first.was.store).told ≡ true) first later on (λ t. subst (Tells (state first.was.store) first.farm.plan) (sym anew) t)
