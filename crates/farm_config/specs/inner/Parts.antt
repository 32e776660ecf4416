-- A configuration in the parts in which the code reads it. Words of inner contracts.
use Rattle.std.specs.Prelude.{false, List, [], codes, None, Result, Ok, Bool}
use Rattle.serde_json.specs.Data.{Data}
use Rattle.serde_json.specs.Find.{get}
use Rattle.reading.specs.Steps.{◌>>=◌}
use Rattle.reading.specs.Values.{needed, or_value, opened}
use Rattle.farm_config.specs.Configs.{MapEntry, Config, greatest_limits}
use Rattle.farm_config.specs.Limits.{most_workers}
use Rattle.farm_config.specs.Kinds.{number_within, an_address}
use Rattle.farm_config.specs.Tables.{maps_of, files_of, limits_of, restyles_of}
use Rattle.farm_config.specs.declared.config.RestyleEntry.{RestyleEntry}
use Rattle.farm_config.specs.inner.Keys.{config_keys}
use Rattle.farm_config.specs.inner.Kinds.{a_file, a_truth}
use Rattle.farm_config.specs.declared.fault.ConfigFault.{ConfigFault}
use Rattle.farm_config.specs.declared.fault.ConfigFault.TheVariants.{Shape}
use Rattle.farm_config.specs.declared.reading_config.Service.{Service}

-- how the farm serves: its workers, the limits of its queues and its addresses
unfoldable pub service_of : Data → Result Service ConfigFault
service_of d = do
  workers ← or_value 2 (number_within 5 1 most_workers) (get (codes "workers") d)
  limits ← or_value greatest_limits limits_of (get (codes "limits") d)
  renderd ← or_value None (an_address 7) (get (codes "renderd") d)
  tiles ← or_value None (an_address 8) (get (codes "tiles") d)
  control ← or_value None (an_address 9) (get (codes "control") d)
  Ok (record {
    workers = workers;
    limits = limits;
    renderd = renderd;
    tiles = tiles;
    control = control;
  })

-- what is read last: the restyles of the maps, and whether a saved farm is resumed
unfoldable pub start_of : List MapEntry → Data → Result (List RestyleEntry × Bool) ConfigFault
start_of maps d = do
  restyles ← or_value [] (restyles_of maps) (get (codes "restyles") d)
  resume ← or_value false (a_truth 11) (get (codes "resume") d)
  Ok (restyles, resume)

-- the configuration by its parts
unfoldable pub config_by_parts : Data → Result Config ConfigFault
config_by_parts d = do
  u ← opened (Shape 0) (Shape 0) config_keys d
  maps ← needed (Shape 1) maps_of (get (codes "maps") d)
  dataset ← needed (Shape 2) (a_file 2) (get (codes "data") d)
  updates ← or_value [] (files_of 3) (get (codes "updates") d)
  expiries ← or_value [] (files_of 4) (get (codes "expiries") d)
  service ← service_of d
  start ← start_of maps d
  Ok (record {
    maps = maps;
    dataset = dataset;
    updates = updates;
    expiries = expiries;
    workers = service.workers;
    limits = service.limits;
    renderd = service.renderd;
    tiles = service.tiles;
    control = service.control;
    restyles = start.0;
    resume = start.1;
  })
