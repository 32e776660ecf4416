-- The META container of a metatile, as mod_tile stores it (struct meta_layout of mod_tile's
-- store_file.c). Numbers stand little-endian in four bytes.
use Rattle.std.specs.Prelude.{◌≡◌, ℕ, ◌+◌, ◌*◌, ◌/◌, ◌%◌, ◌^◌, ◌<◌, ◌++◌, Bool, ◌&&◌, List, length, take, map, codes, nat_lt, slice_index_or, [], if◌then◌else◌, IsTrue, sum_by}
use Rattle.std.specs.List.{flat_map, range_with_len, list_all}
use Rattle.byteorder.specs.Endian.{little_bytes}
use Rattle.plain_world.specs.declared.world.Meta.{Meta}
use Rattle.meta_container.specs.declared.container.Span.{Span}
use Rattle.plain_world.specs.World.{tiles_across, IsMeta}

-- the eight bytes of a pair: where a tile begins, from the file's start, and how many bytes it has
abbrev pub span_bytes : Span → List ℕ
span_bytes span = little_bytes 4 span.offset ++ little_bytes 4 span.size

-- the bytes of tiles, one tile after another
abbrev pub tile_bytes : List (List ℕ) → List ℕ
tile_bytes tiles = flat_map (λ tile. tile) tiles

-- how many bytes tiles have together
abbrev pub bytes_of : List (List ℕ) → ℕ
bytes_of tiles = sum_by (λ tile. length tile) tiles

-- The container, field by field: the mark, the count of places, x, y and z of the metatile's lowest
-- tile, the pair of each place, and the tiles without gaps.
abbrev pub layout : Meta → List Span → List (List ℕ) → List ℕ
layout m index tiles =
    codes "META"
    ++ little_bytes 4 64
    ++ little_bytes 4 m.x
    ++ little_bytes 4 m.y
    ++ little_bytes 4 m.z
    ++ flat_map span_bytes index
    ++ tile_bytes tiles

-- how many bytes stand before the tiles
abbrev pub head_len : ℕ
head_len = 532

-- the index places are 64, by columns of 8: does a metatile with so many tiles side by side have
-- one there?
abbrev pub has_tile : ℕ → ℕ → Bool
has_tile across place = nat_lt (place / 8) across && nat_lt (place % 8) across

-- how many tiles a metatile has before the tile at a place that has one
abbrev pub rank : ℕ → ℕ → ℕ
rank across place = place / 8 * across + place % 8

-- the pair of a place: the tiles stand in order of their places behind the head, and a place
-- without a tile has zeros
abbrev pub span_at : ℕ → List (List ℕ) → ℕ → Span
span_at across tiles place =
    if has_tile across place
    then record {
      offset = head_len + bytes_of (take (rank across place) tiles);
      size = length (slice_index_or tiles (rank across place) []);
    }
    else record { offset = 0; size = 0 }

-- the pairs of the first places, in order
unfoldable pub index_below : ℕ → List (List ℕ) → ℕ → List Span
index_below across tiles count = map (span_at across tiles) (range_with_len 0 count)

-- the container of a metatile's tiles, which come in order of their places
unfoldable pub container_of : Meta → List (List ℕ) → List ℕ
container_of m tiles = layout m (index_below (tiles_across m) tiles 64) tiles

-- a tile of at least one byte
abbrev pub is_stored : List ℕ → Bool
is_stored tile = nat_lt 0 (length tile)

-- what can be encoded: as many tiles as the metatile has, none of them empty, together under 2^31
-- bytes
pub record AreTilesOf (m : Meta) (tiles : List (List ℕ)) : Type 0 where
  pub meta : IsMeta m
  pub count : length tiles ≡ tiles_across m * tiles_across m
  pub stored : IsTrue (list_all is_stored tiles)
  pub short : bytes_of tiles < 2 ^ 31
