-- How keys are hashed: those of neighbours alike, so that they stand side by side in a table. No
-- contract of a table hangs on it.
use Rattle.std.specs.Prelude.{ℕ, ◌+◌, ◌*◌, ◌/◌, ◌%◌, ◌^◌, ◌==◌, List, [], ◌∷◌, length, nat_lt, slice_index, if◌then◌else◌}
use Rattle.std.specs.Int.{w32, from_le_bytes}

-- a number of 32 bits by its bytes, the lowest first
abbrev pub word_of : List ℕ → ℕ
word_of bytes = if nat_lt (length bytes) 4 then 0 else from_le_bytes w32
    (slice_index bytes 0 ∷ slice_index bytes 1 ∷ slice_index bytes 2 ∷ slice_index bytes 3 ∷ [])

-- two numbers of 32 bits as one
abbrev pub pair : ℕ → ℕ → ℕ
pair high low = high * 2 ^ 32 + low

-- which of five keys of a family: the one above is the first
abbrev pub quarter : ℕ → ℕ → ℕ
quarter column row = 1 + column / 8 % 2 + 2 * (row / 8 % 2)

-- the hash of a member of a family: its lowest bits are the family's, but for the three at the top
abbrev pub spread : ℕ → ℕ → ℕ → ℕ
spread level place member =
    ((level * 11400714819323198485 % 2 ^ 64 + place * 14029467366897019727 % 2 ^ 64) % 2 ^ 64
    + member * 2 ^ 61 % 2 ^ 64) % 2 ^ 64

-- the hash of a key: a key of an odd zoom and the four of the next whose squares are the quarters
-- of its square are a family
abbrev pub hash_of : ℕ → ℕ → ℕ → ℕ → ℕ
hash_of map zoom column row = if zoom % 2 == 0
    then spread (pair map (zoom / 2 + zoom % 2)) (pair (column / 16) (row / 16)) (quarter column row)
    else spread (pair map (zoom / 2 + zoom % 2)) (pair (column / 8) (row / 8)) 0
