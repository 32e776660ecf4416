-- Single fields of a saved text, as the code reads them. Words of inner contracts.
use Rattle.std.specs.Prelude.{ℕ, ◌-◌, ◌==◌, if◌then◌else◌, List, length, codes, Option, slice_get}
use Rattle.farm_history.specs.declared.keys.Kept.{Kept}
use Rattle.farm_history.specs.declared.saved.Past.{Past}

-- the bytes at the front
abbrev pub saved_magic : List ℕ
saved_magic = codes "FSV1"

-- the update of a kind
abbrev pub past_of : ℕ → ℕ → Past
past_of kind n = if kind == 0 then Past.Update n else Past.Renew n

-- the last of a list
abbrev pub last_of : List Kept → Option Kept
last_of kept = slice_get kept (length kept - 1)
