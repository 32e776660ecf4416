-- Heads of containers whose tiles are all of one size.
use Rattle.std.specs.Prelude.{◌≡◌, ℕ, ◌*◌, ◌==◌, ◌++◌, Bool, List, length, IsTrue}
use Rattle.std.specs.List.{list_all}
use Rattle.plain_world.specs.declared.world.Meta.{Meta}
use Rattle.plain_world.specs.World.{tiles_across}
use Rattle.meta_container.specs.Container.{tile_bytes, container_of}

-- has each of the tiles so many bytes?
abbrev pub all_of_size : ℕ → List (List ℕ) → Bool
all_of_size size tiles = list_all (λ tile. length tile == size) tiles

-- What was appended is a head: with a metatile's tiles behind it, each of this size and one after
-- another, it is their container.
abbrev pub IsHead : Meta → ℕ → List ℕ → List ℕ → Type 0
IsHead m size old new = (tiles : List (List ℕ)) → length tiles ≡ tiles_across m * tiles_across m
    → IsTrue (all_of_size size tiles)
    → new ++ tile_bytes tiles ≡ old ++ container_of m tiles
