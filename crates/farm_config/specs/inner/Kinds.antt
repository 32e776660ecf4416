-- Kinds of values as the code reads them. Words of inner contracts.
use Rattle.std.specs.Prelude.{ℕ, Bool, List, Result}
use Rattle.std.specs.Option.{ok_or}
use Rattle.serde_json.specs.Data.{Data}
use Rattle.serde_json.specs.Find.{as_bool}
use Rattle.reading.specs.Values.{text}
use Rattle.farm_config.specs.declared.fault.ConfigFault.{ConfigFault}
use Rattle.farm_config.specs.declared.fault.ConfigFault.TheVariants.{Shape}

-- the name of a file: any text
abbrev pub a_file : ℕ → Data → Result (List ℕ) ConfigFault
a_file key d = text (Shape key) d

-- true or false
abbrev pub a_truth : ℕ → Data → Result Bool ConfigFault
a_truth key d = ok_or (as_bool d) (Shape key)
