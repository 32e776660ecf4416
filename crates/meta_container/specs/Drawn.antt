-- What holds of a drawn metatile and its container.
use Rattle.std.specs.Prelude.{◌≡◌, ℕ, List, Ok}
use Rattle.plain_world.specs.declared.world.Meta.{Meta}
use Rattle.plain_world.specs.declared.world.Tile.{Tile}
use Rattle.plain_world.specs.World.{IsTile, IsMeta, IsTileSize, meta_of, index_place}
use Rattle.plain_shapes.specs.Features.{Layer}
use Rattle.plain_drawing.specs.Styles.{MapStyle}
use Rattle.plain_drawing.specs.Drawing as drawing
use Rattle.plain_drawing.specs.Metatiles.{tiles_of}
use Rattle.meta_container.specs.Container.{AreTilesOf, container_of}
use Rattle.meta_container.specs.Reading.{tile_found}
use Rattle.meta_container.specs.Laws.{meta_tile}

-- The drawings of a metatile's tiles, in order of index place, can be encoded: they are as many as
-- the metatile has, none is empty, and together they are under 2^31 bytes.
abbrev pub DrawnAreTiles : Type 0
DrawnAreTiles = (style : MapStyle) (size : ℕ) (m : Meta) (data_layers : List Layer) → IsMeta m
    → IsTileSize size
    → AreTilesOf m (tiles_of style size m data_layers)

-- Among the drawings of a metatile's tiles, the one at the place of a tile is the drawing of that
-- tile.
abbrev pub DrawnInPlace : Type 0
DrawnInPlace = (style : MapStyle) (size : ℕ) (m : Meta) (data_layers : List Layer) (t : Tile)
    → IsTile t → meta_of t ≡ m
    → meta_tile m (tiles_of style size m data_layers) t
    ≡ drawing.drawn_tile style size t data_layers

-- What is read as a tile in the container of its drawn metatile is the drawing of that tile.
abbrev pub DrawnComeBack : Type 0
DrawnComeBack = (style : MapStyle) (size : ℕ) (m : Meta) (data_layers : List Layer) (t : Tile)
    → IsMeta m → IsTileSize size → IsTile t → meta_of t ≡ m
    → tile_found (container_of m (tiles_of style size m data_layers)) m (index_place t)
    ≡ Ok (drawing.drawn_tile style size t data_layers)
