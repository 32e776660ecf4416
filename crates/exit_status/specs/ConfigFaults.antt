-- The texts of the faults of configurations; want of memory has none.
use Rattle.std.specs.Prelude.{ℕ, List, ◌++◌, Option, Some, None, codes}
use Rattle.std.specs.Fmt.{decimal}
use Rattle.farm_config.specs.declared.fault.ConfigFault.{ConfigFault}
use Rattle.farm_config.specs.declared.fault.ConfigFault.TheVariants.{NotJson, Shape, Range, Double, NoMemory}

-- the text of a fault: its number, with the key's number or the map's place
abbrev pub config_text : ConfigFault → Option (List ℕ)
config_text NotJson = Some (codes "config 1")
config_text (Shape key) = Some (codes "config 2 at " ++ decimal key)
config_text (Range key) = Some (codes "config 3 at " ++ decimal key)
config_text (Double place) = Some (codes "config 4 at " ++ decimal place)
config_text NoMemory = None
