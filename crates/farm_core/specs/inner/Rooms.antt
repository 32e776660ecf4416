-- What is true of each farm's fields: shares enough for the drawings to come, keys of the plan, and room for what takes no memory.
use Rattle.std.specs.Prelude.{ℕ, ◌+◌, ◌<◌, ◌≤◌, ◌≡◌, ◌==◌, List, length, count_by, Option}
use Rattle.farm_history.specs.declared.queues.Queue.{Queue}
use Rattle.farm_history.specs.Lists.{Each, Differ}
use Rattle.farm_history.specs.Seen.{Taken}
use Rattle.render_queues.specs.Tables.{Tables, line_of}
use Rattle.farm_plan.specs.Plans.{FarmPlan, IsPlan}
use Rattle.farm_plan.specs.Spots.{IsKeyOf}
use Rattle.farm_refinement.specs.declared.counts.Counts.{Counts}
use Rattle.render_jobs.specs.Shared.{ShareSeen}

-- the ticket of a drawing under way
abbrev pub ticket_of : Taken → ℕ
ticket_of t = t.ticket

-- how many drawings under way are of that version
abbrev pub how_many_at : ℕ → List Taken → ℕ
how_many_at version taken = count_by (λ t. t.version == version) taken

-- each count is at most that of the events
pub record AreCounted (counts : Counts) : Type 0 where
  pub numbers : counts.numbers ≤ counts.turns
  pub jobs : counts.jobs ≤ counts.turns
  pub asks : counts.asks ≤ counts.turns
  pub done : counts.done ≤ counts.turns
  pub stored : counts.stored ≤ counts.turns
  pub version : counts.version ≤ counts.turns

-- the drawings under way: each of another ticket, claimed by a job, over data that are not newer than the newest, and of a key of the plan; not more than workers
pub record AreTaken (plan : FarmPlan) (version jobs : ℕ) (taken : List Taken) : Type 0 where
  pub tickets : Differ ticket_of taken
  pub below : Each (λ t. t.ticket < jobs) taken
  pub aged : Each (λ t. t.version ≤ version) taken
  pub keys : Each (λ t. IsKeyOf plan t.key) taken
  pub few : length taken ≤ plan.workers

-- the spare shares are of the newest data, and for each worker there is one, or a drawing under way over the newest data
pub record AreSpares (own : ShareSeen) (version : ℕ) (spares : List ShareSeen) (taken : List Taken)
    : Type 0 where
  pub alike : Each (λ s. s ≡ own) spares
  pub enough : length spares + how_many_at version taken ≡ own.plan.workers

-- each key that waits is one of the plan
abbrev pub AreKeysOf : FarmPlan → Tables → Type 0
AreKeysOf plan queues = (queue : Queue) → Each (IsKeyOf plan) (line_of queues.lines queue).keys

-- all of it
pub record IsRoomy (own : ShareSeen) (spares : List ShareSeen) (taken : List Taken)
    (queues : Tables) (styled : List (Option ℕ)) (counts : Counts) (spares_room taken_room : ℕ)
    : Type 0 where
  pub is_plan : IsPlan own.plan
  pub counted : AreCounted counts
  pub are_taken : AreTaken own.plan counts.version counts.jobs taken
  pub are_spares : AreSpares own counts.version spares taken
  pub waiting : AreKeysOf own.plan queues
  pub styles : length styled ≡ length own.plan.maps
  pub spares_fit : own.plan.workers ≤ spares_room
  pub taken_fit : own.plan.workers ≤ taken_room
