-- What the objects of data and updates have in common. Each reader is given the fault of its place.
use Rattle.std.specs.Prelude.{ℕ, List, Result, Ok}
use Rattle.serde_json.specs.Data.{Data}
use Rattle.serde_json.specs.Find.{get}
use Rattle.plain_shapes.specs.Data.{is_name}
use Rattle.reading.specs.Steps.{◌>>=◌, check}
use Rattle.reading.specs.Values.{needed, text, opened}
use Rattle.geo_json.specs.declared.faults.DataFault.{DataFault}

-- an object with no other keys than these
abbrev pub object_of : DataFault → List (List ℕ) → Data → Result (Unit {0}) DataFault
object_of shape names d = opened shape shape names d

-- a name has 1 to 64 bytes
unfoldable pub name_of : DataFault → Data → Result (List ℕ) DataFault
name_of shape d = do
  name ← text shape d
  u ← check (is_name name) shape
  Ok name

-- the name at a key
abbrev pub name_at : DataFault → List ℕ → Data → Result (List ℕ) DataFault
name_at shape key d = needed shape (name_of shape) (get key d)
