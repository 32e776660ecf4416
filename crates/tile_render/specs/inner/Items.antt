-- What the code draws, as the items of the drawing.
use Rattle.std.specs.Prelude.{List, [], ◌∷◌, map}
use Rattle.plain_drawing.specs.Drawing as plain
use Rattle.tile_render.specs.declared.items.Item.{Item}
use Rattle.tile_render.specs.declared.items.Item.TheVariants as item
use Rattle.tile_render.specs.declared.items.Items.{Items}
use Rattle.tile_render.specs.declared.items.Items.TheVariants as items

-- an item of the drawing
abbrev pub item_of : Item → plain.Item
item_of (item.Feature f) = plain.feature f.now
item_of (item.Raster g) = plain.raster g.now

-- all items of a layer, in order
abbrev pub items_in : Items → List plain.Item
items_in (items.Raster g) = plain.raster g.now ∷ []
items_in (items.Features source) = map plain.feature source.features
items_in items.Nothing = []
