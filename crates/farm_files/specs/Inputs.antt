-- What the files of a farm say.
use Rattle.std.specs.Prelude.{List}
use Rattle.plain_world.specs.declared.world.Tile.{Tile}
use Rattle.farm_config.specs.Configs.{Config}
use Rattle.farm_plan.specs.Plans.{FarmPlan}
use Rattle.script_lines.specs.declared.script.ScriptLine.{ScriptLine}

-- the plan of the farm, and its expiry lists
pub record FarmInputs : Type 0 where
  pub plan : FarmPlan
  pub lists : List (List Tile)

-- a farm, and the lines of a script
pub record ScriptInputs : Type 0 where
  pub inputs : FarmInputs
  pub script : List ScriptLine

-- a farm with its configuration
pub record ServeInputs : Type 0 where
  pub config : Config
  pub inputs : FarmInputs
