-- What is begun by what was found of a saved farm.
use Rattle.std.proofs.Common.{◌≡◌, ◌≢◌, ℕ, inl, inr, ◌<◌, List, [], ◌∷◌, length, refl, sym, ap, subst, ◌∙◌, arith}
use Rattle.std.specs.Prelude.{Option, Some, None, option_map, unwrap_or, Result, Ok, Err, IfOk}
use Rattle.std.specs.Result.{result_map_both}
use Rattle.reading.specs.Steps.{◌>>=◌, Gives}
use Rattle.farm_base.specs.Outside.{Outside}
use Rattle.farm_base.specs.declared.memory.NoMemory.{NoMemory}
use Rattle.tile_store.specs.Stores.{StoreTold}
use Rattle.exit_status.specs.declared.stops.Stop.{Stop}
use Rattle.exit_status.specs.declared.stops.Stop.TheVariants as stop
use Rattle.farm_history.specs.Replays.{Saving}
use Rattle.farm_plan.specs.Plans.{FarmPlan}
use Rattle.farm_saved.specs.Reading.{saved_in}
use Rattle.farm_saved.specs.declared.fault.SavedFault.{SavedFault}
use Rattle.farm_saved.specs.declared.fault.SavedFault.TheVariants as saved_fault
use Rattle.exit_status.specs.SavedFaults.{saved_text}
use Rattle.render_jobs.specs.Faults.{resume_fault}
use Rattle.render_jobs.specs.declared.faults.ResumeFault.{ResumeFault}
use Rattle.render_jobs.specs.declared.faults.ResumeFault.TheVariants as fault
use Rattle.farm_refinement.specs.Seen.{FarmSeen}
use Rattle.farm_call.specs.Beginnings.{resumed_by, resume_text}
use Rattle.farm_call.specs.inner.Setups.{Tells, BeganBy, Refuses}

-- by what is found over the plan
abbrev fitting : Saving → Option ResumeFault → Result (Option Saving) (Option (List ℕ))
fitting s fault = unwrap_or (option_map (λ why. Err (resume_text why)) fault) (Ok (Some s))

abbrev judged_saving : FarmPlan → Result Saving SavedFault → Result (Option Saving) (Option (List ℕ))
judged_saving plan r = result_map_both (λ s. s) saved_text r >>= λ s. fitting s (resume_fault plan s)

-- bytes that were found are judged
resumed_some : (plan : FarmPlan) (bytes : List ℕ) → 0 < length bytes → resumed_by plan (Some bytes) ≡ judged_saving plan (saved_in bytes)
resumed_some plan [] some = absurd (omega (arith, some))
resumed_some plan (b ∷ bytes) some = refl

-- a fault whose text is told is refused by it
refuses : (plan : FarmPlan) (found : Option (List ℕ)) (fault : Option (List ℕ)) (text : Result (List ℕ) NoMemory) (why : Stop) → Tells text why → IfOk text (λ t. fault ≡ Some t)
    → ((t : List ℕ) → fault ≡ Some t → resumed_by plan found ≡ Err fault) → Refuses plan found why
refuses plan found fault (Err wanting) why is said by = subst (Refuses plan found) (sym is) tt
refuses plan found fault (Ok t) why (inl is) said by = subst (Refuses plan found) (sym is) tt
refuses plan found fault (Ok t) why (inr is) said by = subst (Refuses plan found) (sym is) (fault, by t said, (t, said, refl))

saved_memory : (t : List ℕ) → saved_text saved_fault.NoMemory ≡ Some t → ⊥
saved_memory t is = cc

resume_memory : (t : List ℕ) → resume_text fault.NoMemory ≡ Some t → ⊥
resume_memory t is = cc

abbrev unread_as : SavedFault → Result Saving SavedFault
unread_as why = Err why

module _ (plan : FarmPlan) (bytes : List ℕ) (some : 0 < length bytes) where
  -- the text itself is refused
  pub not_read : (why : SavedFault) (text : Result (List ℕ) NoMemory) (s : Stop) → Gives saved_fault.NoMemory (λ x. x) (saved_in bytes) (unread_as why) → IfOk text (λ t. saved_text why ≡ Some t) → Tells text s
      → Refuses plan (Some bytes) s
  not_read why text s means said tells =
      refuses plan (Some bytes) (saved_text why) text s tells said
      (λ t is. resumed_some plan bytes some ∙ ap (judged_saving plan) (means (λ e. saved_memory t (subst (λ (w : SavedFault). saved_text w ≡ Some t) e is))))

  -- it is not of such a plan
  pub not_fitting : (saving : Saving) → saved_in bytes ≡ Ok saving → (why : ResumeFault) (text : Result (List ℕ) NoMemory) (s : Stop) → (why ≢ fault.NoMemory → resume_fault plan saving ≡ Some why)
      → IfOk text (λ t. resume_text why ≡ Some t) → Tells text s → Refuses plan (Some bytes) s
  not_fitting saving means why text s is_fault said tells =
      refuses plan (Some bytes) (resume_text why) text s tells said
      (λ t is. resumed_some plan bytes some ∙ ap (judged_saving plan) means ∙ ap (fitting saving) (is_fault (λ e. resume_memory t (subst (λ (w : ResumeFault). resume_text w ≡ Some t) e is))))

-- no bytes are as nothing
refuses_none : (plan : FarmPlan) (why : Stop) → Refuses plan None why → Refuses plan (Some []) why
refuses_none plan (stop.Refused line) refuses = refuses
refuses_none plan stop.NoMemory refuses = refuses
refuses_none plan stop.Words refuses = refuses
refuses_none plan (stop.Unreadable line) refuses = refuses
refuses_none plan stop.SinkFailed refuses = refuses
refuses_none plan stop.StoreFailed refuses = refuses
refuses_none plan stop.PortsFailed refuses = refuses
refuses_none plan stop.TurnsUsedUp refuses = refuses

pub began_empty : {D : Type 0} (state : D → Outside StoreTold) (plan : FarmPlan) (store : D) (bytes : List ℕ) (result : Result (FarmSeen D) (D × Stop)) → length bytes ≡ 0
    → BeganBy state plan store None result → BeganBy state plan store (Some bytes) result
began_empty state plan store [] (Ok farm) none began = record { saved = began.saved; said = began.said; begins = began.begins; short = began.short }
began_empty state plan store [] (Err back) none began = (began.0, refuses_none plan back.1 began.1)
began_empty state plan store (b ∷ bytes) result none began = absurd (omega (arith, none))
