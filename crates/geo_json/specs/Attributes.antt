-- Attributes of features as JSON values.
use Rattle.std.specs.Prelude.{ℕ, List, [], ◌∷◌, ◌++◌, Result, Ok, Err}
use Rattle.std.specs.Option.{ok_or}
use Rattle.serde_json.specs.Data.{Data, null, boolean, number, string, array, object, Members, no_members, member}
use Rattle.serde_json.specs.Find.{as_object}
use Rattle.farm_base.specs.declared.values.Value.{Value}
use Rattle.farm_base.specs.declared.values.Value.TheVariants.{Null, Truth, Whole, Text}
use Rattle.farm_base.specs.declared.values.Attr.{Attr}
use Rattle.plain_shapes.specs.Data.{is_name}
use Rattle.reading.specs.Steps.{◌>>=◌, check}
use Rattle.reading.specs.Values.{signed}
use Rattle.geo_json.specs.declared.faults.DataFault.{DataFault}

-- the value of an attribute: null, a truth value, a whole number of 64 bits with a sign, or a
-- string
abbrev pub attr_value : DataFault → Data → Result Value DataFault
attr_value shape null = Ok Null
attr_value shape (boolean b) = Ok (Truth b)
attr_value shape (number n) = signed shape (number n) >>= λ z. Ok (Whole z)
attr_value shape (string t) = Ok (Text t)
attr_value shape (array ds) = Err shape
attr_value shape (object ms) = Err shape

-- an attribute by its key, of 1 to 64 bytes, and its value
unfoldable pub attr_of : DataFault → List ℕ → Data → Result Attr DataFault
attr_of shape key d = do
  u ← check (is_name key) shape
  v ← attr_value shape d
  Ok (record { name = key; value = v })

-- the attributes of an object after those before: a JSON object has its members in byte order of
-- their keys
unfoldable pub attrs_after : DataFault → List Attr → Members → Result (List Attr) DataFault
attrs_after shape before no_members = Ok before
attrs_after shape before (member key d others) =
    attr_of shape key d >>= λ a. attrs_after shape (before ++ a ∷ []) others

-- all attributes of a JSON object; any other value is a fault
unfoldable pub attrs_of : DataFault → Data → Result (List Attr) DataFault
attrs_of shape d = ok_or (as_object d) shape >>= λ members. attrs_after shape [] members
