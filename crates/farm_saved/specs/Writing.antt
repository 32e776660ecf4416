-- The text of what is saved. Numbers are little-endian, of four bytes or, where it is said, of
-- eight.
use Rattle.std.specs.Prelude.{ℕ, ◌+◌, List, ◌++◌, length, codes, Option, Some, None}
use Rattle.std.specs.List.{flat_map}
use Rattle.byteorder.specs.Endian.{little_bytes}
use Rattle.farm_history.specs.declared.keys.Kept.{Kept}
use Rattle.farm_history.specs.declared.saved.Past.{Past}
use Rattle.farm_history.specs.Replays.{Saving}

-- a map: 0, or the number of its last style and 1
abbrev pub style_bytes : Option ℕ → List ℕ
style_bytes None = little_bytes 4 0
style_bytes (Some n) = little_bytes 4 (n + 1)

-- an update: its kind, 0 for an update and 1 for one that expired what it reaches, and its number
abbrev pub past_bytes : Past → List ℕ
past_bytes (Past.Update n) = little_bytes 4 0 ++ little_bytes 4 n
past_bytes (Past.Renew n) = little_bytes 4 1 ++ little_bytes 4 n

-- a clean entry: map, zoom, column, row, and its version in eight bytes
abbrev pub kept_bytes : Kept → List ℕ
kept_bytes k = little_bytes 4 k.key.map ++ little_bytes 4 k.key.meta.z
    ++ little_bytes 4 k.key.meta.x ++ little_bytes 4 k.key.meta.y ++ little_bytes 8 k.version

-- the bytes `FSV1`; the number of maps and each; the number of updates, in eight bytes, and each;
-- the number of clean entries, in eight bytes, and each
unfoldable pub saved_bytes : Saving → List ℕ
saved_bytes s =
    codes "FSV1"
    ++ little_bytes 4 (length s.styles) ++ flat_map style_bytes s.styles
    ++ little_bytes 8 (length s.updates) ++ flat_map past_bytes s.updates
    ++ little_bytes 8 (length s.clean) ++ flat_map kept_bytes s.clean
