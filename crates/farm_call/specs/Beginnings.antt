-- How a farm is begun over a store: anew, or where another one stopped in order.
use Rattle.std.specs.Prelude.{◌≡◌, ◌⊎◌, ℕ, Bool, true, false, List, [], ◌∷◌, codes, Option, Some, None, option_map, unwrap_or, Result, Ok, Err, IfSome}
use Rattle.std.specs.Result.{result_map_both}
use Rattle.farm_base.specs.Outside.{Outside}
use Rattle.tile_store.specs.Stores.{StoreTold, Gets, StorePuts, whole}
use Rattle.tile_store.specs.declared.stores.StoreFault.TheVariants.{Failed}
use Rattle.exit_status.specs.Stops.{refused_line}
use Rattle.exit_status.specs.declared.stops.Stop.{Stop}
use Rattle.exit_status.specs.declared.stops.Stop.TheVariants as stop
use Rattle.farm_history.specs.Replays.{Saving}
use Rattle.farm_plan.specs.Plans.{FarmPlan}
use Rattle.farm_saved.specs.Reading.{saved_in}
use Rattle.exit_status.specs.SavedFaults.{saved_text}
use Rattle.reading.specs.Steps.{◌>>=◌}
use Rattle.render_jobs.specs.Faults.{resume_fault}
use Rattle.render_jobs.specs.declared.faults.ResumeFault.{ResumeFault}
use Rattle.render_jobs.specs.declared.faults.ResumeFault.TheVariants as fault
use Rattle.tile_paths.specs.Paths.{saved_path}
use Rattle.farm_refinement.specs.Seen.{FarmSeen}
use Rattle.farm_refinement.specs.Stands.{StandsFor}
use Rattle.farm_core.specs.Begins.{Tells}
use Rattle.farm_shared.specs.Shared.{lasting_of, past, IsAfter}

-- ---- what is found there

-- the text of a fault of what was saved, over a plan: its number. Want of memory has none
abbrev pub resume_text : ResumeFault → Option (List ℕ)
resume_text (fault.Maps count) = Some (codes "resume 1")
resume_text (fault.Number place) = Some (codes "resume 2")
resume_text (fault.Kept place) = Some (codes "resume 3")
resume_text (fault.Apply place why) = Some (codes "resume 4")
resume_text fault.NoMemory = None

-- what a farm of the plan is resumed from, by what was found of a saved one: by nothing and by no
-- bytes it begins anew. Or the text of the first fault, of what is saved or of that over the plan
abbrev pub resumed_by : FarmPlan → Option (List ℕ) → Result (Option Saving) (Option (List ℕ))
resumed_by plan None = Ok None
resumed_by plan (Some []) = Ok None
resumed_by plan (Some (b ∷ bytes)) =
    result_map_both (λ s. s) saved_text (saved_in (b ∷ bytes)) >>= λ s.
    unwrap_or (option_map (λ why. Err (resume_text why)) (resume_fault plan s)) (Ok (Some s))

-- What is saved in a store, for a farm of the plan: what it is resumed from, or the text of the
-- first fault. Where the store tells, it is by what stands there; and else by what it answered
pub record IsSavedIn (at : Outside StoreTold) (plan : FarmPlan)
    (says : Result (Option Saving) (Option (List ℕ))) : Type 0 where
  pub found : Option (List ℕ)
  pub stands : IfSome at.told (λ t. found ≡ t.content saved_path)
  pub said : resumed_by plan found ≡ says

-- the line refuses what is saved, for a fault of this text
abbrev pub RefusesFor : Option (List ℕ) → List ℕ → Type 0
RefusesFor why line = (text : List ℕ) × (why ≡ Some text) × (line ≡ refused_line saved_path text)

-- ---- how a farm begins

-- What it is resumed from: nothing where it is not to resume, and else what is saved in its store
abbrev pub ResumesFrom : Outside StoreTold → FarmPlan → Bool → Option Saving → Type 0
ResumesFrom at plan false saved = saved ≡ None
ResumesFrom at plan true saved = IsSavedIn at plan (Ok saved)

-- the store then: where it is to resume, no bytes were put in the place of what was saved
abbrev pub HasEmptied : Bool → Outside StoreTold → Outside StoreTold → Type 0
HasEmptied false at at' = at' ≡ at
HasEmptied true at at' = StorePuts at at' saved_path [] (Ok tt)

-- A farm of the plan was begun over the store, and nothing has happened to it since; `resume` says
-- whether it is to resume
pub record HasBegun {D : Type 0} (state : D → Outside StoreTold) (plan : FarmPlan) (resume : Bool)
    (store : D) (farm : FarmSeen D) : Type 0 where
  pub plan_is : farm.plan ≡ plan
  pub resumes : ResumesFrom (state store) plan resume farm.saved
  -- its store as it was at the beginning shows what the store showed; what it shows now
  pub first_shows : state farm.first ≡ state store
  pub emptied : HasEmptied resume (state store) (state farm.store)
  -- it stands for what it was resumed from
  pub stands : (store_tells : Bool)
      → (store_tells ≡ true → Tells (state farm.first) farm.plan farm.saved)
      → StandsFor state store_tells farm (past (lasting_of state farm) [])

-- Why none was begun, and what the store shows then. Refused, by the line of the first fault of
-- what is saved; StoreFailed, where what is saved could not be had, or could not be emptied; or
-- NoMemory. But for the call that failed the store shows what it showed
abbrev pub CannotBegin : Outside StoreTold → FarmPlan → Bool → Outside StoreTold → Stop → Type 0
CannotBegin at plan resume at' (stop.Refused line) =
    (resume ≡ true) × (why : Option (List ℕ)) × IsSavedIn at plan (Err why) × RefusesFor why line
    × (at' ≡ at)
CannotBegin at plan resume at' stop.StoreFailed =
    (resume ≡ true) × (Gets whole at at' saved_path (Err Failed)
    ⊎ ((saved : Option Saving) × IsSavedIn at plan (Ok saved)
    × StorePuts at at' saved_path [] (Err Failed)))
CannotBegin at plan resume at' stop.NoMemory = at' ≡ at
CannotBegin at plan resume at' other = ⊥

-- A farm of the plan was begun over the store, which may go on; or the store is handed back, and
-- why
abbrev pub Begins : {D : Type 0} → (D → Outside StoreTold) → FarmPlan → Bool → D
    → Result (FarmSeen D) (D × Stop) → Type 0
Begins state plan resume store (Ok farm) =
    HasBegun state plan resume store farm × IsAfter state farm []
Begins state plan resume store (Err back) =
    CannotBegin (state store) plan resume (state back.0) back.1
