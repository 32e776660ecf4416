-- The kinds of values in a configuration. Each is read under the number of its key: a value of the
-- wrong kind or a wrong text is Shape of it, a number outside its range is Range of it.
use Rattle.std.specs.Prelude.{ℕ, if◌then◌else◌, List, Option, Some, Result, Ok, Err}
use Rattle.serde_json.specs.Data.{Data}
use Rattle.reading.specs.Steps.{◌>>=◌}
use Rattle.reading.specs.Values.{text, whole_number}
use Rattle.farm_config.specs.Addresses.{is_address}
use Rattle.tile_paths.specs.Paths.{is_map_name}
use Rattle.plain_world.specs.World.{is_tile_size}
use Rattle.farm_config.specs.declared.fault.ConfigFault.{ConfigFault}
use Rattle.farm_config.specs.declared.fault.ConfigFault.TheVariants.{Shape, Range}

-- the name of a map
unfoldable pub a_map_name : ℕ → Data → Result (List ℕ) ConfigFault
a_map_name key d = text (Shape key) d >>= λ s. if is_map_name s then Ok s else Err (Shape key)

-- a whole number within two bounds
unfoldable pub number_within : ℕ → ℕ → ℕ → Data → Result ℕ ConfigFault
number_within key low high d = whole_number (Shape key) (Range key) low high d

-- the size of a tile
unfoldable pub a_tile_size : ℕ → Data → Result ℕ ConfigFault
a_tile_size key d = whole_number (Shape key) (Range key)
    16 512 d >>= λ n. if is_tile_size n then Ok n else Err (Range key)

-- an address
unfoldable pub an_address : ℕ → Data → Result (Option (List ℕ)) ConfigFault
an_address key d = text (Shape key) d >>= λ s. if is_address s then Ok (Some s) else Err (Shape key)
