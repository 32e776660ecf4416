-- What a shared farm stands for after turns, and what a seat knows of a job. A history of turns is a list
-- of pairs, a seat's number and an entry.
use Rattle.std.specs.Prelude.{ℕ, ◌≡◌, Bool, true, false, List, ◌∷◌, ◌++◌, reverse, Option}
use Rattle.farm_base.specs.Outside.{Outside}
use Rattle.tile_store.specs.Stores.{StoreTold}
use Rattle.farm_history.specs.declared.answers.ClaimAnswer.TheVariants.{Job}
use Rattle.farm_history.specs.Entries.{Entry, Claim}
use Rattle.farm_history.specs.Replays.{Saving}
use Rattle.farm_refinement.specs.Seen.{FarmSeen}
use Rattle.farm_refinement.specs.Stands.{StandsFor}
use Rattle.farm_plan.specs.Plans.{FarmPlan}
use Rattle.farm_plan.specs.Jobs.{JobSeen, job_key, Carries}
use Rattle.farm_core.specs.Answers.{at_saved}
use Rattle.farm_core.specs.Begins.{origin, Tells, BeginsWell}
use Rattle.farm_shared.specs.declared.lasting.LastingPart.{LastingPart}
use Rattle.farm_shared.specs.Seats.{plain, Seated, is_ended_by}

-- what no event changes of a farm: its plan, what it was resumed from, its store as it was at the start,
-- and what the store tells at the path of a saved farm
abbrev pub lasting_of : {D : Type 0} → (D → Outside StoreTold) → FarmSeen D → LastingPart D
lasting_of state farm = record {
  plan = farm.plan;
  saved = farm.saved;
  first = farm.first;
  beside = at_saved (state farm.store);
}

-- the farm's history after these turns
abbrev pub past : {D : Type 0} → LastingPart D → List (ℕ × Entry) → List Entry
past part log = plain (reverse log) ++ origin part.plan part.saved

-- whether it may be said of the farm's history that the store tells what it holds; that it does not may
-- always be said
abbrev pub MayTell : {D : Type 0} → (D → Outside StoreTold) → LastingPart D → Bool → Type 0
MayTell state part store_tells = store_tells ≡ true → Tells (state part.first) part.plan part.saved

-- The farm stands for what it began with and then these turns, and each entry of them is of a seat that it
-- may be of
pub record IsAfter {D : Type 0} (state : D → Outside StoreTold) (farm : FarmSeen D)
    (log : List (ℕ × Entry)) : Type 0 where
  pub each : (store_tells : Bool) → MayTell state (lasting_of state farm) store_tells
      → StandsFor state store_tells farm (past (lasting_of state farm) log)
  pub seated : Seated (reverse log)
  pub begun : BeginsWell (origin farm.plan farm.saved)

-- The job is the seat's to finish, at a farm of that plan that was resumed from that: in what the seat has
-- seen stands its Claim that gave the job, which carries what it should of the history before that Claim, and
-- no Finish of the ticket by the seat
pub record MayFinish (plan : FarmPlan) (saved : Option Saving) (n : ℕ) (seen : List (ℕ × Entry))
    (job : JobSeen) : Type 0 where
  pub since : List (ℕ × Entry)
  pub before : List (ℕ × Entry)
  pub is_claim : reverse seen
      ≡ since ++ (n, Claim job.worker (Job job.ticket (job_key job) job.version)) ∷ before
  pub carries : Carries plan (plain before ++ origin plan saved) job
  pub unended : is_ended_by n job.ticket (reverse seen) ≡ false

-- the same, at a farm with that lasting part
abbrev pub HasJob : {D : Type 0} → LastingPart D → ℕ → List (ℕ × Entry) → JobSeen → Type 0
HasJob part n seen job = MayFinish part.plan part.saved n seen job
