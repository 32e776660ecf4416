-- What holds of the containers that are written.
use Rattle.std.specs.Prelude.{◌≡◌, ℕ, List, [], length, take, drop, slice_index_or, Ok}
use Rattle.plain_world.specs.declared.world.Meta.{Meta}
use Rattle.plain_world.specs.declared.world.Tile.{Tile}
use Rattle.plain_world.specs.World.{IsTile, meta_of, tiles_across, index_place}
use Rattle.meta_container.specs.declared.container.Entry.{Entry}
use Rattle.meta_container.specs.Container.{AreTilesOf, head_len, rank, container_of}
use Rattle.meta_container.specs.Reading.{tile_found, entry_found}

-- the bytes of a tile among those of its metatile, which come in order of their places
abbrev pub meta_tile : Meta → List (List ℕ) → Tile → List ℕ
meta_tile m tiles t = slice_index_or tiles (rank (tiles_across m) (index_place t)) []

-- From the container of a metatile's tiles each tile is read back.
abbrev pub TilesComeBack : Type 0
TilesComeBack = (m : Meta) (tiles : List (List ℕ)) (t : Tile) → AreTilesOf m tiles → IsTile t
    → meta_of t ≡ m
    → tile_found (container_of m tiles) m (index_place t) ≡ Ok (meta_tile m tiles t)

-- From a container's head alone the pair of each tile is read back, which names the tile's bytes in
-- the container, all of them and no more.
abbrev pub EntriesComeBack : Type 0
EntriesComeBack = (m : Meta) (tiles : List (List ℕ)) (t : Tile) → AreTilesOf m tiles → IsTile t
    → meta_of t ≡ m
    → (entry : Entry)
    × (entry_found (take head_len (container_of m tiles)) m (index_place t) ≡ Ok entry)
    × (take entry.size (drop entry.offset (container_of m tiles)) ≡ meta_tile m tiles t)
    × (entry.size ≡ length (meta_tile m tiles t))
