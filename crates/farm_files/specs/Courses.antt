-- The courses of the files of a farm.
use Rattle.std.specs.Prelude.{ℕ, List}
use Rattle.plain_world.specs.declared.world.Tile.{Tile}
use Rattle.plain_shapes.specs.Data.{Change}
use Rattle.style_objects.specs.TextReadings.{TextReading, text_reading}
use Rattle.geo_json.specs.DataTexts.{dataset_in}
use Rattle.geo_json.specs.UpdateTexts.{update_in}
use Rattle.expiry_lists.specs.Lists.{list_in}
use Rattle.farm_config.specs.Configs.{MapEntry, Config}
use Rattle.farm_config.specs.Tables.{config_in}
use Rattle.farm_config.specs.declared.config.RestyleEntry.{RestyleEntry}
use Rattle.script_lines.specs.Scripts.{script_in}
use Rattle.exit_status.specs.ConfigFaults.{config_text}
use Rattle.exit_status.specs.DataFaults.{data_text}
use Rattle.exit_status.specs.LineFaults.{list_text, script_text}
use Rattle.farm_plan.specs.Plans.{MapPlan, Restyle}
use Rattle.farm_files.specs.Course.{Course, made, ◌>>=◌, file, each}
use Rattle.farm_files.specs.MapCourses.{style_course_by}
use Rattle.farm_files.specs.Addresses.{addressed_in}
use Rattle.farm_files.specs.Inputs.{FarmInputs, ScriptInputs, ServeInputs}

-- ---- the files that a configuration names, where texts are read so

-- a map's style says the map, with its name, tile size and greatest zoom
unfoldable pub map_course_by : TextReading → MapEntry → Course MapPlan
map_course_by says m = style_course_by says m.style >>= λ style. made
    (record { name = m.name; style = style; tile = m.tile; max_zoom = m.max_zoom })

-- a restyle's style says the restyle
unfoldable pub restyle_course_by : TextReading → RestyleEntry → Course Restyle
restyle_course_by says r =
    style_course_by says r.style >>= λ style. made (record { map = r.map; style = style })

-- all files that a configuration names, in order, say a farm
unfoldable pub inputs_course_by : TextReading → Config → Course FarmInputs
inputs_course_by says config = do
  maps ← each (map_course_by says) config.maps
  restyles ← each (restyle_course_by says) config.restyles
  layers ← file dataset_in data_text config.dataset
  updates ← each (file update_in data_text) config.updates
  lists ← each (file list_in list_text) config.expiries
  made (record {
    plan = record {
      maps = maps;
      dataset = layers;
      updates = updates;
      workers = config.workers;
      limits = config.limits;
      restyles = restyles;
    };
    lists = lists;
  })

-- ---- the files of commands, where texts are read so

-- a configuration, the files that it names, and a script
unfoldable pub script_course_by : TextReading → List ℕ → List ℕ → Course ScriptInputs
script_course_by says config_name script_name = do
  config ← file config_in config_text config_name
  inputs ← inputs_course_by says config
  script ← file script_in script_text script_name
  made (record { inputs = inputs; script = script })

-- a configuration with its addresses, and the files that it names
unfoldable pub serve_course_by : TextReading → List ℕ → Course ServeInputs
serve_course_by says config_name = do
  config ← file addressed_in config_text config_name
  inputs ← inputs_course_by says config
  made (record { config = config; inputs = inputs })

-- ---- the same, where texts are read by the functions that go over them

abbrev pub map_course : MapEntry → Course MapPlan
map_course m = map_course_by text_reading m

abbrev pub restyle_course : RestyleEntry → Course Restyle
restyle_course r = restyle_course_by text_reading r

abbrev pub update_course : List ℕ → Course (List Change)
update_course name = file update_in data_text name

abbrev pub list_course : List ℕ → Course (List Tile)
list_course name = file list_in list_text name

abbrev pub inputs_course : Config → Course FarmInputs
inputs_course config = inputs_course_by text_reading config

abbrev pub script_course : List ℕ → List ℕ → Course ScriptInputs
script_course config_name script_name = script_course_by text_reading config_name script_name

abbrev pub serve_course : List ℕ → Course ServeInputs
serve_course config_name = serve_course_by text_reading config_name
