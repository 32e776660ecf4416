-- A list is read item by item; each is read with what was read before it, so that its place is the
-- length of that.
use Rattle.std.specs.Prelude.{List, [], ◌∷◌, ◌++◌, Result, Ok}
use Rattle.serde_json.specs.Data.{Data, Items, no_items, item}
use Rattle.reading.specs.Steps.{◌>>=◌}

-- the items of a list behind those that were read before, or the first fault
unfoldable pub list_after : {A E : Type 0} → (List A → Data → Result A E) → List A → Items
    → Result (List A) E
list_after read before no_items = Ok before
list_after read before (item d ds) = read before d >>= λ a. list_after read (before ++ a ∷ []) ds

-- all items of a list in order, or the first fault
abbrev pub list_of : {A E : Type 0} → (List A → Data → Result A E) → Items → Result (List A) E
list_of read items = list_after read [] items
