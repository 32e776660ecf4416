-- What a farm is that was begun by what is saved.
use Rattle.std.proofs.Common.{◌≡◌, ℕ, inr, ◌<◌, ◌^◌, Bool, true, false, List, [], length, refl, sym, ap, ap₂, subst, ◌∙◌}
use Rattle.std.specs.Prelude.{Option, Some, None, Result, Ok, Err, Vec, IfSome, option_map}
use Rattle.std.specs.declared.alloc.Global.{Global}
use Rattle.farm_base.specs.Outside.{Outside}
use Rattle.tile_store.specs.Stores.{StoreTold, StorePuts, whole}
use Rattle.tile_store.specs.declared.stores.StoreFault.{StoreFault}
use Rattle.tile_store.specs.declared.stores.StoreFault.TheVariants as fault
use Rattle.exit_status.specs.declared.stops.Stop.{Stop}
use Rattle.exit_status.specs.declared.stops.Stop.TheVariants as stop
use Rattle.farm_history.specs.Entries.{Entry}
use Rattle.farm_history.specs.Replays.{Saving}
use Rattle.farm_plan.specs.Plans.{FarmPlan}
use Rattle.farm_refinement.specs.Seen.{FarmSeen}
use Rattle.farm_refinement.specs.Stands.{StandsFor}
use Rattle.farm_core.specs.Begins.{Begins as CoreBegins, Tells, origin}
use Rattle.farm_shared.specs.Shared.{IsAfter}
use Rattle.farm_shared.proofs.Beginning.{after_nothing}
use Rattle.tile_paths.specs.Paths.{saved_path}
use Rattle.farm_call.specs.Beginnings.{Begins, HasBegun, CannotBegin, resumed_by}
use Rattle.farm_call.specs.inner.Setups.{BeganWith, BeganBy, Refuses, Empties, stop_of}

whole_same : (found : Option (List ℕ)) → option_map whole found ≡ found
whole_same None = refl
whole_same (Some bytes) = refl

found_stands : (told : Option StoreTold) (found : Option (List ℕ)) → IfSome told (λ t. found ≡ option_map whole (t.content saved_path)) → IfSome told (λ t. found ≡ t.content saved_path)
found_stands None found is = tt
found_stands (Some t) found is = is ∙ whole_same (t.content saved_path)

module _ {D : Type 0} (state : D → Outside StoreTold) (plan : FarmPlan) where
  -- what stood for its origin when it began does so after a put that is no event
  after_put : (store : D) (saved : Option Saving) (old new : FarmSeen D) → CoreBegins state plan saved store old → length (origin plan saved) < 2 ^ 62 → new ≡ record old { store = new.store }
      → ((told : Bool) (h : List Entry) → StandsFor state told old h → StandsFor state told new h) → IsAfter state new []
  after_put store saved old new begins short same keeps =
      let plan_is : new.plan ≡ plan = ap (λ (f : FarmSeen D). f.plan) same ∙ begins.plan_is in
      let saved_is : new.saved ≡ saved = ap (λ (f : FarmSeen D). f.saved) same ∙ begins.saved_is in
      let first_is : new.first ≡ store = ap (λ (f : FarmSeen D). f.first) same ∙ begins.first_is in
      let origin_is : origin plan saved ≡ origin new.plan new.saved = sym (ap₂ origin plan_is saved_is) in
      let tells_is : Tells (state new.first) new.plan new.saved ≡ Tells (state store) plan saved =
      ap (λ (d : D). Tells (state d) new.plan new.saved) first_is ∙ ap₂ (λ (p : FarmPlan) (s : Option Saving). Tells (state store) p s) plan_is saved_is
      in
      after_nothing state new
      (λ told may. subst (StandsFor state told new) origin_is (keeps told (origin plan saved) (begins.stands told (λ e. subst (λ (T : Type 0). T) tells_is (may e)))))
      (subst (λ (h : List Entry). length h < 2 ^ 62) origin_is short)

  module _ (store middle : D) (shows : state middle ≡ state store) where
    -- a farm began anew, where none was to be resumed
    pub begun_anew : (farm : FarmSeen D) → middle ≡ store → BeganWith state plan middle None farm → HasBegun state plan false store farm × IsAfter state farm []
    begun_anew farm same began = (
      record {
        plan_is = began.begins.plan_is;
        resumes = began.begins.saved_is ∙ none began.saved began.said;
        first_shows = ap state began.begins.first_is ∙ shows;
        emptied = ap state began.begins.store_is ∙ shows;
        stands = after.each;
      },
      after,
    )
      where
        after : IsAfter state farm []
        after = after_put middle began.saved farm farm began.begins began.short refl (λ told h s. s)

        none : (saved : Option Saving) → resumed_by plan None ≡ Ok saved → saved ≡ None
        none saved is = cc

    module _ (found : Option (List ℕ)) (stands : IfSome (state store).told (λ t. found ≡ t.content saved_path)) where
      -- a farm began by what was found, and what was saved is emptied
      pub begun_saved : (old new : FarmSeen D) → BeganWith state plan middle found old → Empties state old (Ok new) → HasBegun state plan true store new × IsAfter state new []
      begun_saved old new began empties = (
        record {
          plan_is = ap (λ (f : FarmSeen D). f.plan) empties.1 ∙ began.begins.plan_is;
          resumes = record { found = found; stands = stands; said = began.said ∙ ap Ok (sym (ap (λ (f : FarmSeen D). f.saved) empties.1 ∙ began.begins.saved_is)) };
          first_shows = ap (λ (f : FarmSeen D). state f.first) empties.1 ∙ ap state began.begins.first_is ∙ shows;
          emptied = subst (λ (at : Outside StoreTold). StorePuts at (state new.store) saved_path [] (Ok tt)) (ap state began.begins.store_is ∙ shows) empties.0;
          stands = after.each;
        },
        after,
      )
        where
          after : IsAfter state new []
          after = after_put middle began.saved old new began.begins began.short empties.1 empties.2

      -- what was found could not be emptied
      pub cannot_empty : (old : FarmSeen D) (back : D) (why : Stop) → BeganWith state plan middle found old → Empties state old (Err (back, why)) → CannotBegin (state store) plan true (state back) why
      cannot_empty old back why began empties = by_fault empties.0 why empties.1 empties.2
        where
          at : state old.store ≡ state store
          at = ap state began.begins.store_is ∙ shows

          by_fault : (f : StoreFault) (why : Stop) → StorePuts (state old.store) (state back) saved_path [] (Err f) → why ≡ stop_of f → CannotBegin (state store) plan true (state back) why
          by_fault fault.Failed why puts is =
              subst (CannotBegin (state store) plan true (state back)) (sym is)
              (refl, inr (began.saved, record { found = found; stands = stands; said = began.said }, subst (λ (a : Outside StoreTold). StorePuts a (state back) saved_path [] (Err fault.Failed)) at puts))
          by_fault fault.NoMemory why puts is = subst (CannotBegin (state store) plan true (state back)) (sym is) (puts ∙ at)

      -- a farm began by what was found, and then it was emptied, or not
      pub begun_by : (old : FarmSeen D) (result : Result (FarmSeen D) (D × Stop)) → BeganWith state plan middle found old → Empties state old result → Begins state plan true store result
      begun_by old (Ok new) began empties = begun_saved old new began empties
      begun_by old (Err back) began empties = cannot_empty old back.0 back.1 began empties

    -- a farm that is to begin anew did not begin
    pub cannot_start : (back : D) (why : Stop) → middle ≡ store → back ≡ middle → Refuses plan None why → CannotBegin (state store) plan false (state back) why
    cannot_start back (stop.Refused line) same is refuses = absurd (let e = refuses.1 in cc)
    cannot_start back stop.NoMemory same is refuses = ap state is ∙ shows
    cannot_start back stop.Words same is refuses = refuses
    cannot_start back (stop.Unreadable line) same is refuses = refuses
    cannot_start back stop.SinkFailed same is refuses = refuses
    cannot_start back stop.StoreFailed same is refuses = absurd refuses
    cannot_start back stop.PortsFailed same is refuses = refuses
    cannot_start back stop.TurnsUsedUp same is refuses = refuses

-- a farm that is to begin anew began, or not
pub begun_new : {D : Type 0} (state : D → Outside StoreTold) (plan : FarmPlan) (store : D) (result : Result (FarmSeen D) (D × Stop)) → BeganBy state plan store None result → Begins state plan false store result
begun_new state plan store (Ok farm) began = begun_anew state plan store store refl farm refl began
begun_new state plan store (Err back) began = cannot_start state plan store store refl back.0 back.1 refl began.0 began.1

-- what was found was not emptied
pub not_emptied : {D : Type 0} (state : D → Outside StoreTold) (old new : FarmSeen D) (back : D) (f : StoreFault) (why : Stop) → StorePuts (state old.store) (state new.store) saved_path [] (Err f) → back ≡ new.store → why ≡ stop_of f
    → Empties state old (Err (back, why))
not_emptied {D} state old new back f why puts same is = (f, subst (λ (d : D). StorePuts (state old.store) (state d) saved_path [] (Err f)) (sym same) puts, is)

-- what was found stands there, where the store tells
pub found_is : (told : Option StoreTold) (found : Option (Vec ℕ Global)) → IfSome told (λ t. option_map (λ v. v.items) found ≡ option_map whole (t.content saved_path))
    → IfSome told (λ t. option_map (λ v. v.items) found ≡ t.content saved_path)
found_is told found is = found_stands told (option_map (λ v. v.items) found) is
