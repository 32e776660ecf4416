-- The tiles of a metatile, and their drawings.
use Rattle.std.specs.Prelude.{ℕ, ◌+◌, List, map, flat_map}
use Rattle.std.specs.List.{range_with_len}
use Rattle.plain_world.specs.declared.world.Tile.{Tile}
use Rattle.plain_world.specs.declared.world.Meta.{Meta}
use Rattle.plain_world.specs.World.{tiles_across}
use Rattle.plain_shapes.specs.Features.{Layer}
use Rattle.plain_drawing.specs.Styles.{MapStyle}
use Rattle.plain_drawing.specs.Drawing.{drawn_tile}

-- the tile of a metatile so many columns and rows from its first one
abbrev pub tile_at : Meta → ℕ → ℕ → Tile
tile_at m col row = record { z = m.z; x = m.x + col; y = m.y + row }

-- a column of a metatile's tiles, from north to south
abbrev pub column_of : Meta → ℕ → List Tile
column_of m col = map (λ row. tile_at m col row) (range_with_len 0 (tiles_across m))

-- all tiles of a metatile, in order of index place: by columns, from the west
abbrev pub tiles_in : Meta → List Tile
tiles_in m = flat_map (column_of m) (range_with_len 0 (tiles_across m))

-- the drawings of a metatile's tiles, in order of index place
abbrev pub tiles_of : MapStyle → ℕ → Meta → List Layer → List (List ℕ)
tiles_of style size m data_layers = map (λ t. drawn_tile style size t data_layers) (tiles_in m)
