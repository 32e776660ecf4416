-- What the bytes of a saved text say, field by field: the value, or the first fault. A line is a
-- step; each field leaves the bytes behind it to the next. Where a field is cut short the fault has
-- the length of all bytes.
use Rattle.std.specs.Prelude.{ℕ, zero, suc, ◌-◌, ◌==◌, ◌&&◌, Bool, true, nat_le, if◌then◌else◌, List, [], ◌∷◌, ◌++◌, length, take, drop, codes, Option, Some, None, Result, Ok, Err, slice_get}
use Rattle.std.specs.Str.{bytes_eq}
use Rattle.byteorder.specs.Endian.{little_number}
use Rattle.reading.specs.Steps.{◌>>=◌, check}
use Rattle.meta_container.specs.Reading.{is_meta}
use Rattle.farm_history.specs.declared.keys.Key.{Key}
use Rattle.farm_history.specs.declared.keys.Kept.{Kept}
use Rattle.farm_history.specs.declared.saved.Past.{Past}
use Rattle.farm_history.specs.Replays.{Saving, key_before}
use Rattle.farm_saved.specs.declared.fault.SavedFault.{SavedFault}
use Rattle.farm_saved.specs.declared.fault.SavedFault.TheVariants.{Short, Magic, Kind, Order, Extra}

-- all saved texts begin with these bytes
unfoldable pub after_magic : SavedFault → List ℕ → Result (List ℕ) SavedFault
after_magic short bytes = check (nat_le 4 (length bytes))
    short >>= λ u. check (bytes_eq (take 4 bytes) (codes "FSV1")) Magic >>= λ u. Ok (drop 4 bytes)

-- a number of so many bytes, and the bytes behind it
unfoldable pub bytes_number : SavedFault → ℕ → List ℕ → Result (ℕ × List ℕ) SavedFault
bytes_number short n bytes =
    if nat_le n (length bytes) then Ok (little_number n bytes, drop n bytes) else Err short

-- so many items one after another, behind those that were read before; each is read with those
-- before it
unfoldable pub many : {A : Type 0} → (List A → List ℕ → Result (A × List ℕ) SavedFault) → ℕ → List A
    → List ℕ → Result (List A × List ℕ) SavedFault
many read zero before bytes = Ok (before, bytes)
many read (suc n) before bytes =
    read before bytes >>= λ item. many read n (before ++ item.0 ∷ []) item.1

-- the style that a map's number says
abbrev pub style_if_any : ℕ → Option ℕ
style_if_any zero = None
style_if_any (suc n) = Some n

-- a map
unfoldable pub style_number_in : SavedFault → List (Option ℕ) → List ℕ
    → Result (Option ℕ × List ℕ) SavedFault
style_number_in short before bytes =
    bytes_number short 4 bytes >>= λ number. Ok (style_if_any number.0, number.1)

-- an update: its kind, 0 for an update and 1 for one that expired what it reaches, and its number
unfoldable pub past_in : SavedFault → List Past → List ℕ → Result (Past × List ℕ) SavedFault
past_in short before bytes = do
  kind ← bytes_number short 4 bytes
  u ← check (nat_le kind.0 1) (Kind (length before))
  number ← bytes_number short 4 kind.1
  Ok ((if kind.0 == 0 then Past.Update number.0 else Past.Renew number.0), number.1)

-- the key comes behind that of the entry before it, if there is one
abbrev pub is_behind : Option Kept → Key → Bool
is_behind None k = true
is_behind (Some last) k = key_before last.key k

-- an entry may stand behind those before it: it is of a metatile, its version is at most the number
-- of updates, and its key comes behind theirs
unfoldable pub is_kept : ℕ → List Kept → Kept → Bool
is_kept updates before k = is_meta k.key.meta && nat_le k.version updates
    && is_behind (slice_get before (length before - 1)) k.key

-- the fields of a clean entry: map, zoom, column, row and version
unfoldable pub fields_in : SavedFault → List ℕ → Result (Kept × List ℕ) SavedFault
fields_in short bytes = do
  map ← bytes_number short 4 bytes
  z ← bytes_number short 4 map.1
  x ← bytes_number short 4 z.1
  y ← bytes_number short 4 x.1
  version ← bytes_number short 8 y.1
  Ok (
    record {
      key = record { map = map.0; meta = record { z = z.0; x = x.0; y = y.0 } };
      version = version.0;
    },
    version.1,
  )

-- a clean entry of a farm with so many updates, which is judged after all its fields
unfoldable pub entry_in : SavedFault → ℕ → List Kept → List ℕ → Result (Kept × List ℕ) SavedFault
entry_in short updates before bytes = do
  entry ← fields_in short bytes
  u ← check (is_kept updates before entry.0) (Order (length before))
  Ok entry

-- nothing is left of so many bytes
unfoldable pub nothing_left : ℕ → List ℕ → Result (Unit {0}) SavedFault
nothing_left all rest = check (length rest == 0) (Extra (all - length rest))

-- the whole text
unfoldable pub saving_in : SavedFault → ℕ → List ℕ → Result Saving SavedFault
saving_in short all bytes = do
  start ← after_magic short bytes
  maps ← bytes_number short 4 start
  styles ← many (style_number_in short) maps.0 [] maps.1
  pasts ← bytes_number short 8 styles.1
  updates ← many (past_in short) pasts.0 [] pasts.1
  entries ← bytes_number short 8 updates.1
  clean ← many (entry_in short (length updates.0)) entries.0 [] entries.1
  u ← nothing_left all clean.1
  Ok (record { styles = styles.0; updates = updates.0; clean = clean.0 })

-- what the bytes of a saved text say
unfoldable pub saved_in : List ℕ → Result Saving SavedFault
saved_in bytes = saving_in (Short (length bytes)) (length bytes) bytes
