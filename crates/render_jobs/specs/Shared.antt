-- What a share of a farm's plan and data is seen as.
use Rattle.std.specs.Prelude.{List}
use Rattle.plain_shapes.specs.Features.{Layer}
use Rattle.farm_plan.specs.Plans.{FarmPlan}

-- a share of the plan and of one version of the data
pub record ShareSeen : Type 0 where
  pub plan : FarmPlan
  pub data_now : List Layer
