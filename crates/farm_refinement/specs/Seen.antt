-- What a farm is seen as.
use Rattle.std.specs.Prelude.{ℕ, List, Option}
use Rattle.plain_shapes.specs.Features.{Layer}
use Rattle.farm_history.specs.declared.saved.Past.{Past}
use Rattle.farm_history.specs.Seen.{Taken}
use Rattle.farm_history.specs.Replays.{Saving}
use Rattle.farm_plan.specs.Plans.{FarmPlan}
use Rattle.render_queues.specs.Tables.{Tables}
use Rattle.expiry_lists.specs.Marks.{MarksSeen}
use Rattle.farm_refinement.specs.declared.counts.Counts.{Counts}

-- A farm over a store of type D.
pub record FarmSeen (D : Type 0) : Type 0 where
  -- what it was started with; what it was resumed from, if it was; and its store as it was then
  pub plan : FarmPlan
  pub saved : Option Saving
  pub first : D
  -- its store now
  pub store : D
  pub counts : Counts
  -- the newest data
  pub data_now : List Layer
  -- the updates that succeeded, in order
  pub changes : List Past
  -- for each map the number of its last style, or none where it still has the plan's
  pub styled : List (Option ℕ)
  -- the drawings under way, in order of their claims
  pub taken : List Taken
  -- what is shown
  pub marks : MarksSeen
  -- what waits, what is taken, the asks that wait and the replies
  pub queues : Tables
