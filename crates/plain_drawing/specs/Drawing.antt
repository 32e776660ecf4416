-- The plain drawing: the colour at a point, and the tile that has it at the centre of each pixel.
-- Layers, styles and symbolizers are painted in Mapnik's painter order.
use Rattle.std.specs.Prelude.{ℕ, ◌/◌, Bool, false, if◌then◌else◌, List, [], ◌∷◌, map, flat_map, fold, find, option_map, option_to_list, unwrap_or}
use Rattle.std.specs.Str.{bytes_eq}
use Rattle.farm_base.specs.declared.Attr.{Attr}
use Rattle.plain_world.specs.declared.world.Point.{Point}
use Rattle.plain_world.specs.declared.world.Tile.{Tile}
use Rattle.plain_shapes.specs.declared.colour.Colour.{Colour}
use Rattle.plain_shapes.specs.declared.shapes.Geometry.{Geometry}
use Rattle.plain_shapes.specs.declared.shapes.Geometry.TheVariants as shape
use Rattle.plain_drawing.specs.declared.style.Symbolizer.{Symbolizer}
use Rattle.plain_drawing.specs.declared.style.Symbolizer.TheVariants as paint
use Rattle.plain_world.specs.World.{side_at, window_of, centres}
use Rattle.plain_shapes.specs.Features.{Feature, Layer}
use Rattle.plain_drawing.specs.Styles.{Style, LayerRef, MapStyle}
use Rattle.plain_drawing.specs.Grids.{Grid, grid_at}
use Rattle.plain_shapes.specs.Rings.{in_rings}
use Rattle.plain_shapes.specs.Strokes.{on_stroke, on_outline, on_marks, half_of}
use Rattle.plain_shapes.specs.Blending.{blend}
use Rattle.plain_drawing.specs.Rules.{item_symbolizers, denominator_of, is_active}
use Rattle.plain_shapes.specs.Ppm.{ppm}

-- the side of a pixel of a tile of zoom z and so many pixels, in world units
abbrev pub pixel_of : ℕ → ℕ → ℕ
pixel_of z size = side_at z / size

-- what a layer draws: features, or a bound grid, which is one item without attributes
pub data Item : Type 0 where
  feature : Feature → Item
  raster : Grid → Item

-- the attributes of an item that filters see
abbrev pub item_attrs : Item → List Attr
item_attrs (feature f) = f.attrs
item_attrs (raster g) = []

-- the symbolizer covers the point on a shape, where pixels have this side: polygons are filled,
-- lines and rings stroked, points marked; on other shapes it covers nothing
abbrev pub covers : ℕ → Geometry → Point → Symbolizer → Bool
covers pixel (shape.Polygon rings) c (paint.Polygon fill opacity) = in_rings rings c
covers pixel (shape.Lines lines) c (paint.Line stroke width opacity cap) =
    on_stroke lines (half_of width pixel) cap c
covers pixel (shape.Polygon rings) c (paint.Line stroke width opacity cap) =
    on_outline rings (half_of width pixel) c
covers pixel (shape.Points points) c (paint.Markers fill width height opacity) =
    on_marks points (half_of width pixel) (half_of height pixel) c
covers _ _ _ _ = false

-- the symbolizer's colour painted over d in its opacity; a RasterSymbolizer has no colour of its
-- own
abbrev pub painted_over : Colour → Symbolizer → Colour
painted_over d (paint.Polygon fill opacity) = blend fill opacity d
painted_over d (paint.Line stroke width opacity cap) = blend stroke opacity d
painted_over d (paint.Markers fill width height opacity) = blend fill opacity d
painted_over d (paint.Raster opacity) = d

-- a grid painted over d at the point: a RasterSymbolizer paints the grid's colour where it has one,
-- the others nothing
abbrev pub raster_over : Grid → Point → Colour → Symbolizer → Colour
raster_over g c d (paint.Raster opacity) =
    unwrap_or (option_map (λ s. blend s opacity d) (grid_at g c)) d
raster_over _ _ d _ = d

-- the colour d of the point after one symbolizer on an item
abbrev pub symbolizer_at : ℕ → Item → Point → Colour → Symbolizer → Colour
symbolizer_at pixel (feature f) c d s = if covers pixel f.geometry c s then painted_over d s else d
symbolizer_at pixel (raster g) c d s = raster_over g c d s

-- after each symbolizer that an item meets in a style
abbrev pub item_at : ℕ → ℕ → Style → Point → Colour → Item → Colour
item_at pixel denominator style c d item =
    fold (symbolizer_at pixel item c) d (item_symbolizers (item_attrs item) denominator style)

-- after one pass of a style over all items
abbrev pub style_at : ℕ → ℕ → List Item → Point → Colour → Style → Colour
style_at pixel denominator items c d style = fold (item_at pixel denominator style c) d items

-- the features of the first data layer of this name, none where there is none
abbrev pub features_of : List Layer → List ℕ → List Feature
features_of data_layers name =
    unwrap_or (option_map (λ l. l.features) (find (λ l. bytes_eq l.name name) data_layers)) []

-- the items of a source: the bound grid of this name, else the features of the data layer of this
-- name, else none
abbrev pub items_of : List Grid → List Layer → List ℕ → List Item
items_of grids data_layers name =
    unwrap_or (option_map (λ g. raster g ∷ []) (find (λ g. bytes_eq g.name name) grids))
    (map feature (features_of data_layers name))

-- the style of this name
abbrev pub style_named : List Style → List ℕ → List Style
style_named styles name = option_to_list (find (λ s. bytes_eq s.name name) styles)

-- the layer is at scale
abbrev pub is_drawn : ℕ → LayerRef → Bool
is_drawn denominator layer =
    is_active layer.minimum_scale_denominator layer.maximum_scale_denominator denominator

-- after one layer of the map: each style that it names, if the layer is drawn
abbrev pub layer_at : ℕ → ℕ → MapStyle → List Layer → Point → Colour → LayerRef → Colour
layer_at pixel denominator style data_layers c d layer =
    if is_drawn denominator layer
    then fold (style_at pixel denominator (items_of style.grids data_layers layer.source) c) d
    (flat_map (style_named style.styles) layer.styles)
    else d

-- the colour of a point in the drawing of a map style at zoom z with tiles of so many pixels: the
-- background, and each layer over it, the first lowest
abbrev pub colour_at : MapStyle → ℕ → ℕ → List Layer → Point → Colour
colour_at style size z data_layers c = fold (layer_at (pixel_of z size) (denominator_of z size)
    style data_layers c) style.background_color style.layers

-- the format of tiles: so many columns and rows as a binary PPM text
abbrev pub pixels_text : ℕ → ℕ → List Colour → List ℕ
pixels_text = ppm

-- a tile: the text of as many columns and rows as it has pixels, with the colour of the drawing at
-- each centre
abbrev pub drawn_tile : MapStyle → ℕ → Tile → List Layer → List ℕ
drawn_tile style size t data_layers =
    pixels_text size size (map (colour_at style size t.z data_layers) (centres (window_of t size)))
