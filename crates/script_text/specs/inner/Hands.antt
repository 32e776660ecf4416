-- The jobs in hand of a script.
use Rattle.std.specs.Prelude.{ℕ, List, map}
use Rattle.farm_history.specs.Entries.{Entry}
use Rattle.farm_history.specs.Lists.{Each, Differ}
use Rattle.farm_plan.specs.Plans.{FarmPlan}
use Rattle.farm_plan.specs.Jobs.{JobSeen, IsFlight, IsValidJob}

abbrev pub ticket_of : JobSeen → ℕ
ticket_of job = job.ticket

-- their tickets
abbrev pub tickets : List JobSeen → List ℕ
tickets hand = map ticket_of hand

-- they are drawings that are under way after the history, each once
pub record HandStands (plan : FarmPlan) (h : List Entry) (hand : List JobSeen) : Type 0 where
  pub fly : Each (IsFlight plan h) hand
  pub valid : Each IsValidJob hand
  pub differ : Differ ticket_of hand
