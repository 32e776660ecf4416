-- The path under which a map's metatile is stored, as mod_tile makes it (xyz_to_meta of mod_tile's
-- store_file_utils.c): the map's name, the zoom, and five numbers that spread the metatiles over
-- folders.
use Rattle.std.specs.Prelude.{ℕ, ◌+◌, ◌*◌, ◌/◌, ◌%◌, ◌==◌, ◌&&◌, ◌||◌, ◌++◌, ◌∷◌, Bool, List, length, nat_le, codes, IsTrue}
use Rattle.std.specs.List.{list_all}
use Rattle.std.specs.Fmt.{decimal}
use Rattle.plain_world.specs.declared.world.Meta.{Meta}

-- a byte of a name: `a` to `z`, `0` to `9`, `_` and `-`
abbrev pub is_name_byte : ℕ → Bool
is_name_byte b =
    (nat_le 97 b && nat_le b 122) || ((nat_le 48 b && nat_le b 57) || (b == 95 || b == 45))

-- a map's name, as a test: 1 to 40 bytes of names
abbrev pub is_map_name : List ℕ → Bool
is_map_name name = nat_le 1 (length name) && nat_le (length name) 40 && list_all is_name_byte name

-- the same as a proposition
abbrev pub IsName : List ℕ → Type 0
IsName name = IsTrue (is_map_name name)

-- four bits of x beside four bits of y
abbrev pub nibbles : ℕ → ℕ → ℕ
nibbles x y = x % 16 * 16 + y % 16

-- what stands in a folder of this name
abbrev pub in_folder : List ℕ → List ℕ → List ℕ
in_folder folder rest = folder ++ 47 ∷ rest

-- five numbers and the ending
abbrev pub five : ℕ → ℕ → ℕ → ℕ → ℕ → List ℕ
five h4 h3 h2 h1 h0 =
    in_folder (decimal h4) (in_folder (decimal h3)
    (in_folder (decimal h2) (in_folder (decimal h1) (decimal h0 ++ codes ".meta"))))

-- The path of a map's metatile: the map's name, the zoom, and five numbers of four bits of x and
-- four of y each, the lowest in the last.
unfoldable pub path_of : List ℕ → Meta → List ℕ
path_of name m =
    in_folder name (in_folder (decimal m.z)
    (five
    (nibbles (m.x / 16 / 16 / 16 / 16) (m.y / 16 / 16 / 16 / 16))
    (nibbles (m.x / 16 / 16 / 16) (m.y / 16 / 16 / 16))
    (nibbles (m.x / 16 / 16) (m.y / 16 / 16))
    (nibbles (m.x / 16) (m.y / 16))
    (nibbles m.x m.y)))

-- where a farm that stops in order is saved in its store
abbrev pub saved_path : List ℕ
saved_path = codes "farm.saved"
