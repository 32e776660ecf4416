-- What holds of paths: each is the path of one name and metatile, and none is the path of anything
-- else that a store holds.
use Rattle.std.specs.Prelude.{◌≡◌, ◌≢◌, ℕ, List, ◌++◌, codes}
use Rattle.plain_world.specs.declared.world.Meta.{Meta}
use Rattle.plain_world.specs.World.{IsMeta}
use Rattle.tile_paths.specs.Paths.{IsName, path_of, saved_path}

-- Two metatiles of maps that have one path are the same metatile of the same map.
abbrev pub OnePath : Type 0
OnePath = (name other : List ℕ) (m n : Meta) → IsName name → IsName other → IsMeta m → IsMeta n
    → path_of name m ≡ path_of other n → (name ≡ other) × (m ≡ n)

-- Every path ends in `.meta`.
abbrev pub EndsInMeta : Type 0
EndsInMeta =
    (name : List ℕ) (m : Meta) → (front : List ℕ) × (path_of name m ≡ front ++ codes ".meta")

-- No metatile has the path of a saved farm.
abbrev pub IsNotSaved : Type 0
IsNotSaved = (name : List ℕ) (m : Meta) → path_of name m ≢ saved_path
