-- What a text is refused for has a text of its own: want of memory is no fault of what a text says.
use Rattle.std.specs.Prelude.{◌≡◌, ℕ, List, Err, is_some, IsTrue}
use Rattle.plain_image.specs.PpmText.{ppm_of}
use Rattle.plain_image.specs.declared.reading.PpmFault.{PpmFault}
use Rattle.raster_layers.specs.declared.grids.GridFault.{GridFault}
use Rattle.expiry_lists.specs.Lists.{list_in}
use Rattle.expiry_lists.specs.declared.faults.ListFault.{ListFault}
use Rattle.farm_config.specs.Tables.{config_in}
use Rattle.farm_config.specs.declared.fault.ConfigFault.{ConfigFault}
use Rattle.farm_saved.specs.Reading.{saved_in}
use Rattle.farm_saved.specs.declared.fault.SavedFault.{SavedFault}
use Rattle.geo_json.specs.DataTexts.{dataset_in}
use Rattle.geo_json.specs.declared.faults.DataFault.{DataFault}
use Rattle.script_lines.specs.Scripts.{script_in}
use Rattle.script_lines.specs.declared.script.ScriptFault.{ScriptFault}
use Rattle.style_objects.specs.Tables.{style_in}
use Rattle.style_objects.specs.declared.fault.StyleFault.{StyleFault}
use Rattle.exit_status.specs.ConfigFaults.{config_text}
use Rattle.exit_status.specs.DataFaults.{data_text}
use Rattle.exit_status.specs.LineFaults.{script_text, list_text}
use Rattle.exit_status.specs.RasterFaults.{ppm_text, grid_text}
use Rattle.exit_status.specs.SavedFaults.{saved_text}
use Rattle.exit_status.specs.StyleFaults.{style_text}

-- of a style
abbrev pub StylesAreTold : Type 0
StylesAreTold = (bytes : List ℕ) (e : StyleFault) → style_in bytes ≡ Err e
    → IsTrue (is_some (style_text e))

-- of data
abbrev pub DataAreTold : Type 0
DataAreTold = (bytes : List ℕ) (e : DataFault) → dataset_in bytes ≡ Err e
    → IsTrue (is_some (data_text e))

-- of the PPM text of a raster file, and of the grid that it makes
abbrev pub PpmTextsAreTold : Type 0
PpmTextsAreTold = (bytes : List ℕ) (e : PpmFault) → ppm_of bytes ≡ Err e
    → IsTrue (is_some (ppm_text e))

abbrev pub GridsAreTold : Type 0
GridsAreTold = (e : GridFault) → IsTrue (is_some (grid_text e))

-- of a configuration
abbrev pub ConfigsAreTold : Type 0
ConfigsAreTold = (bytes : List ℕ) (e : ConfigFault) → config_in bytes ≡ Err e
    → IsTrue (is_some (config_text e))

-- of a script, and of an expiry list
abbrev pub ScriptsAreTold : Type 0
ScriptsAreTold = (bytes : List ℕ) (e : ScriptFault) → script_in bytes ≡ Err e
    → IsTrue (is_some (script_text e))

abbrev pub ListsAreTold : Type 0
ListsAreTold = (bytes : List ℕ) (e : ListFault) → list_in bytes ≡ Err e
    → IsTrue (is_some (list_text e))

-- of a saved farm
abbrev pub SavedAreTold : Type 0
SavedAreTold = (bytes : List ℕ) (e : SavedFault) → saved_in bytes ≡ Err e
    → IsTrue (is_some (saved_text e))
