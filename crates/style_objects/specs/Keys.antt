-- The keys that an object of a style text may have.
use Rattle.std.specs.Prelude.{ℕ, List, Result}
use Rattle.serde_json.specs.Data.{Data}
use Rattle.reading.specs.Values.{opened}
use Rattle.style_objects.specs.declared.fault.At.{At}
use Rattle.style_objects.specs.declared.fault.StyleFault.{StyleFault}
use Rattle.style_objects.specs.declared.fault.StyleFault.TheVariants as fault

-- the first step of each object: Shape where it is no object, Unsupported where it has another key
-- than these
unfoldable pub opened_as : List (List ℕ) → At → Data → Result (Unit {0}) StyleFault
opened_as keys at d = opened (fault.Shape at) (fault.Unsupported at) keys d
