-- How a farm begins, part by part.
use Rattle.std.specs.Prelude.{ℕ, ◌≤◌, ◌≡◌, List, [], length, replicate, Option, None}
use Rattle.farm_history.specs.declared.queues.Limits.{Limits}
use Rattle.farm_history.specs.Seen.{Taken}
use Rattle.farm_plan.specs.Plans.{FarmPlan}
use Rattle.render_jobs.specs.Shared.{ShareSeen}
use Rattle.render_queues.specs.Tables.{Tables, no_tables}
use Rattle.farm_refinement.specs.Seen.{FarmSeen}
use Rattle.farm_refinement.specs.inner.Events.{new_farm}

-- the tables of a farm that begins, for so many maps and workers and these limits: no map has been given a style, nothing is drawn and nothing waits, and each worker's drawing has its place
pub record AreFirst (maps : ℕ) (limits : Limits) (workers : ℕ) (styled : List (Option ℕ))
    (taken : List Taken) (queues : Tables) (taken_room : ℕ) : Type 0 where
  pub unstyled : styled ≡ replicate maps None
  pub undrawn : taken ≡ []
  pub idle : queues ≡ no_tables limits workers
  pub taken_fit : workers ≤ taken_room

-- the parts of a farm that begins with the plan: its share of the plan and its data, one for each worker, and the tables
pub record AreParts (plan : FarmPlan) (own : ShareSeen) (spares : List ShareSeen) (spares_room : ℕ)
    (styled : List (Option ℕ)) (taken : List Taken) (queues : Tables) (taken_room : ℕ)
    : Type 0 where
  pub own_is : own ≡ record { plan = plan; data_now = plan.dataset }
  pub alike : spares ≡ replicate plan.workers own
  pub spares_fit : plan.workers ≤ spares_room
  pub tables : AreFirst (length plan.maps) plan.limits plan.workers styled taken queues taken_room

-- a farm that begins with the plan over the store
pub record IsStarted {D : Type 0} (plan : FarmPlan) (store : D) (farm : FarmSeen D) : Type 0 where
  pub is : farm ≡ new_farm plan None store (replicate (length plan.maps) None) farm.marks
  pub unmarked : farm.marks.shown ≡ []
