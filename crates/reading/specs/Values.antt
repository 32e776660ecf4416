-- The kinds of values that a JSON text holds, and the keys of an object.
use Rattle.std.specs.Prelude.{ℕ, ℤ, Bool, true, false, ◌&&◌, List, nat_le, if◌then◌else◌, Option, Some, None, Result, Ok, Err, option_and_then}
use Rattle.std.specs.Option.{ok_or, is_some}
use Rattle.std.specs.List.{list_any}
use Rattle.std.specs.Str.{bytes_eq}
use Rattle.serde_json.specs.Data.{Data, object, Items, Members, no_members, member, Num, unsigned, negative, float}
use Rattle.serde_json.specs.Find.{as_object, as_array, as_str, as_number, as_i64}
use Rattle.serde_json.specs.Events.{items_len}
use Rattle.reading.specs.Steps.{◌>>=◌, check}

-- a key that has to be there
abbrev pub needed : {A E : Type 0} → E → (Data → Result A E) → Option Data → Result A E
needed fault read None = Err fault
needed fault read (Some d) = read d

-- a key that may be absent, and then has this value
abbrev pub or_value : {A E : Type 0} → A → (Data → Result A E) → Option Data → Result A E
or_value default read None = Ok default
or_value default read (Some d) = read d

-- a text
abbrev pub text : {E : Type 0} → E → Data → Result (List ℕ) E
text fault d = ok_or (as_str d) fault

-- a number that has to be whole and within two bounds: shape where it is not whole, range where it
-- lies outside
abbrev pub integer_within : {E : Type 0} → E → E → ℕ → ℕ → Option Num → Result ℕ E
integer_within shape range low high None = Err shape
integer_within shape range low high (Some (unsigned n)) = if nat_le low n && nat_le n high then Ok n
    else Err range
integer_within shape range low high (Some (negative z)) = Err range
integer_within shape range low high (Some (float x)) = Err shape

-- a whole number within two bounds, as a JSON value
abbrev pub whole_number : {E : Type 0} → E → E → ℕ → ℕ → Data → Result ℕ E
whole_number shape range low high d = integer_within shape range low high (as_number d)

-- a whole number of 64 bits with a sign
abbrev pub signed : {E : Type 0} → E → Data → Result ℤ E
signed fault d = ok_or (option_and_then as_i64 (as_number d)) fault

-- a list
abbrev pub list : {E : Type 0} → E → Data → Result Items E
list fault d = ok_or (as_array d) fault

-- the name is one of these
abbrev pub is_one_of : List (List ℕ) → List ℕ → Bool
is_one_of names name = list_any (λ s. bytes_eq name s) names

-- each key is one of these
abbrev pub members_known : List (List ℕ) → Members → Bool
members_known names no_members = true
members_known names (member key value others) = is_one_of names key && members_known names others

-- an object with no other keys than these
abbrev pub only_keys : List (List ℕ) → Data → Bool
only_keys names (object members) = members_known names members
only_keys names _ = false

-- an object is opened: it has to be one, and then to have no unknown key
unfoldable pub opened : {E : Type 0} → E → E → List (List ℕ) → Data → Result (Unit {0}) E
opened shape unknown names d =
    check (is_some (as_object d)) shape >>= λ u. check (only_keys names d) unknown

-- a list, if there is one, within its limit
abbrev pub items_within : {E : Type 0} → ℕ → E → Option Items → Result (Option Items) E
items_within limit fault None = Ok None
items_within limit fault (Some items) = if nat_le (items_len items) limit then Ok (Some items)
    else Err fault

-- the list that stands at a key, if one does, within its limit
unfoldable pub within : {E : Type 0} → ℕ → E → Option Data → Result (Option Items) E
within limit fault found = items_within limit fault (option_and_then as_array found)
