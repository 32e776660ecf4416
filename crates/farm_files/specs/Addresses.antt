-- Configurations of farms that listen.
use Rattle.std.specs.Prelude.{ℕ, is_some, List, Result, Ok}
use Rattle.farm_config.specs.Configs.{Config}
use Rattle.farm_config.specs.Tables.{config_in}
use Rattle.farm_config.specs.declared.fault.ConfigFault.{ConfigFault}
use Rattle.farm_config.specs.declared.fault.ConfigFault.TheVariants.{Shape}
use Rattle.reading.specs.Steps.{◌>>=◌, check}

-- the configuration, if it names all three addresses; else the first that it lacks
unfoldable pub addressed_of : Config → Result Config ConfigFault
addressed_of config = do
  u ← check (is_some config.renderd) (Shape 7)
  u ← check (is_some config.tiles) (Shape 8)
  u ← check (is_some config.control) (Shape 9)
  Ok config

-- what the bytes of such a configuration say; the lack of an address comes after all other faults
unfoldable pub addressed_in : List ℕ → Result Config ConfigFault
addressed_in bytes = config_in bytes >>= addressed_of
