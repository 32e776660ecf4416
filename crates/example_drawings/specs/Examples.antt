-- Drawings that were worked out by hand: small maps, and what they show at zoom 0 in tiles of 16 by
-- 16 pixels, or which symbolizers they draw.
use Rattle.std.specs.Prelude.{ℕ, ◌*◌, ◌/◌, ◌^◌, Bool, true, false, List, [], ◌∷◌, ◌++◌, map, flat_map, replicate, count_by, codes, pos, Option, Some, None}
use Rattle.farm_base.specs.declared.Attr.{Attr}
use Rattle.farm_base.specs.declared.Value.TheVariants as value
use Rattle.plain_world.specs.declared.world.Point.{Point}
use Rattle.plain_world.specs.declared.world.Tile.{Tile}
use Rattle.plain_shapes.specs.declared.colour.Colour.{Colour}
use Rattle.plain_shapes.specs.declared.shapes.Geometry.{Geometry}
use Rattle.plain_shapes.specs.declared.shapes.Geometry.TheVariants as shape
use Rattle.plain_shapes.specs.declared.shapes.LineCap.{LineCap}
use Rattle.plain_drawing.specs.declared.style.FilterMode.{FilterMode}
use Rattle.plain_drawing.specs.declared.style.FilterMode.TheVariants as mode
use Rattle.plain_drawing.specs.declared.style.Symbolizer.{Symbolizer}
use Rattle.plain_drawing.specs.declared.style.Symbolizer.TheVariants as paint
use Rattle.plain_filters.specs.declared.expr.CompareSign.{CompareSign}
use Rattle.plain_filters.specs.declared.expr.CompareSign.TheVariants as sign
use Rattle.plain_world.specs.World.{window_of, centres}
use Rattle.plain_shapes.specs.Features.{Feature, Layer}
use Rattle.plain_filters.specs.Filters.{FilterTree, compare_tree, name_tree, number_tree}
use Rattle.plain_drawing.specs.Styles.{Rule, Style, LayerRef, RasterRef, MapStyle}
use Rattle.plain_drawing.specs.Grids.{Grid}
use Rattle.plain_shapes.specs.Ppm.{ppm}
use Rattle.plain_drawing.specs.Rules.{denominator_of, item_symbolizers}
use Rattle.plain_drawing.specs.Drawing.{pixel_of, covers, drawn_tile}

-- ---- colours and pictures

-- the colour of so much red, green and blue
abbrev pub rgb : ℕ → ℕ → ℕ → Colour
rgb r g b = record { r = r; g = g; b = b }

-- full red, green and blue
abbrev pub white : Colour
white = rgb 255 255 255

-- full red
abbrev pub red : Colour
red = rgb 255 0 0

-- full blue
abbrev pub blue : Colour
blue = rgb 0 0 255

-- full green
abbrev pub lime : Colour
lime = rgb 0 255 0

-- red at half opacity over white
abbrev pub pale_red : Colour
pale_red = rgb 255 128 128

-- blue at half opacity over white
abbrev pub pale_blue : Colour
pale_blue = rgb 128 128 255

-- so many equal rows
abbrev pub rows : ℕ → List Colour → List Colour
rows n row = flat_map (λ r. r) (replicate n row)

-- the one tile of zoom 0, which is the world
abbrev pub world : Tile
world = record { z = 0; x = 0; y = 0 }

-- the PPM text of a picture of 16 by 16 pixels
abbrev pub picture : List Colour → List ℕ
picture pixels = ppm 16 16 pixels

-- ---- shapes: 2^26 units are a pixel

-- a point by its pixels, in halves
abbrev pub at : ℕ → ℕ → Point
at x y = record { x = x * 2 ^ 26 / 2; y = y * 2 ^ 26 / 2 }

-- a rectangle by the halves of pixels at its west, north, east and south
abbrev pub box : ℕ → ℕ → ℕ → ℕ → List Point
box west north east south = at west north ∷ at east north ∷ at east south ∷ at west south ∷ []

-- a square from one number of pixels to another, both ways
abbrev pub square : ℕ → ℕ → List Point
square a b = box (2 * a) (2 * a) (2 * b) (2 * b)

-- how many of the 256 centres the symbolizer covers on a shape
abbrev pub cover_count : Geometry → Symbolizer → ℕ
cover_count g s = count_by (λ c. covers (pixel_of 0 16) g c s) (centres (window_of world 16))

-- how many centres a fill of these rings covers
abbrev pub fill_count : List (List Point) → ℕ
fill_count rings = cover_count (shape.Polygon rings) (paint.Polygon red 1000)

-- how many centres a stroke along a line covers, its width in hundredths of a pixel
abbrev pub stroke_count : List Point → ℕ → LineCap → ℕ
stroke_count points width cap =
    cover_count (shape.Lines (points ∷ [])) (paint.Line red width 1000 cap)

-- how many centres a stroke along these rings covers, its width in hundredths of a pixel
abbrev pub outline_count : List (List Point) → ℕ → LineCap → ℕ
outline_count rings width cap = cover_count (shape.Polygon rings) (paint.Line red width 1000 cap)

-- how many centres marks on these points cover, their width and height in hundredths of a pixel
abbrev pub mark_count : List Point → ℕ → ℕ → ℕ
mark_count points width height =
    cover_count (shape.Points points) (paint.Markers red width height 1000)

-- a line of 4 pixels along the centres of row 8
abbrev pub level : List Point
level = at 8 17 ∷ at 16 17 ∷ []

-- the line of 4 pixels with each of its points doubled
abbrev pub level_doubled : List Point
level_doubled = at 8 17 ∷ at 8 17 ∷ at 16 17 ∷ at 16 17 ∷ []

-- the line of 4 pixels there and back
abbrev pub level_back : List Point
level_back = at 8 17 ∷ at 16 17 ∷ at 8 17 ∷ []

-- a line whose two points are one, at a centre
abbrev pub dot : List Point
dot = at 17 17 ∷ at 17 17 ∷ []

-- ---- maps

-- a rule for all scales
abbrev pub rule : Option FilterTree → Bool → Symbolizer → Rule
rule filter else_filter s = record {
  filter = filter;
  else_filter = else_filter;
  min_scale_denominator = 0;
  max_scale_denominator = None;
  symbolizers = s ∷ [];
}

-- a style of these rules
abbrev pub style : FilterMode → List Rule → Style
style mode rules = record { name = codes "s"; filter_mode = mode; rules = rules }

-- a layer of a map for all scales
abbrev pub layer : List ℕ → LayerRef
layer source = record {
  name = codes "l";
  source = source;
  minimum_scale_denominator = 0;
  maximum_scale_denominator = None;
  styles = codes "s" ∷ [];
}

-- a map of one layer and one style over white
abbrev pub map_of : List ℕ → Symbolizer → List RasterRef → List Grid → MapStyle
map_of source s rasters grids = record {
  background_color = white;
  styles = style mode.All (rule None false s ∷ []) ∷ [];
  layers = layer source ∷ [];
  rasters = rasters;
  grids = grids;
}

-- a feature that is a polygon of one ring, without attributes
abbrev pub polygon : List Point → Feature
polygon ring = record { id = 1; geometry = shape.Polygon (ring ∷ []); attrs = [] }

-- data of one layer, named land, with a polygon for each ring
abbrev pub land : List (List Point) → List Layer
land rings = record { name = codes "land"; features = map polygon rings } ∷ []

-- ---- filter modes

-- the attribute k with this number as its value
abbrev pub k : ℕ → List Attr
k n = record { name = codes "k"; value = value.Whole (pos n) } ∷ []

-- the filter [k] SIGN 1
abbrev pub compare_one : CompareSign → Option FilterTree
compare_one s = Some (compare_tree (name_tree (codes "k")) s (number_tree (pos 1)))

-- an opaque fill of this colour
abbrev pub fill : Colour → Symbolizer
fill c = paint.Polygon c 1000

-- a style of three rules: red where k is 1, blue where it is at least 1, and lime elsewhere
abbrev pub three_rules : FilterMode → Style
three_rules mode = style mode (rule (compare_one sign.Equal) false (fill red)
    ∷ rule (compare_one sign.GreaterEqual) false (fill blue) ∷ rule None true (fill lime) ∷ [])

-- the symbolizers that draw a feature with this k
abbrev pub symbolizers_met : FilterMode → ℕ → List Symbolizer
symbolizers_met mode n = item_symbolizers (k n) (denominator_of 0 16) (three_rules mode)

-- ---- a grid under the tile

-- a grid of 2 by 1 pixels over the north half of the world: red in the west, blue in the east
abbrev pub halves : Grid
halves = record {
  name = codes "sky";
  west = 0;
  north = 0;
  pixel = 2 ^ 29;
  cols = 2;
  rows = 1;
  bytes = 255 ∷ 0 ∷ 0 ∷ 0 ∷ 0 ∷ 255 ∷ [];
}

-- the raster of a style to which the grid of two halves belongs
abbrev pub halves_ref : RasterRef
halves_ref = record {
  name = codes "sky";
  file = codes "sky.ppm";
  west = 0;
  north = 0;
  pixel = 2 ^ 29;
}

-- a map of the grid of two halves alone, drawn with this opacity
abbrev pub sky : ℕ → MapStyle
sky opacity = map_of (codes "sky") (paint.Raster opacity) (halves_ref ∷ []) (halves ∷ [])

-- a picture of two colours side by side in its north half, over white
abbrev pub over_white : Colour → Colour → List Colour
over_white west east = rows 8 (replicate 8 west ++ replicate 8 east) ++ rows 8 (replicate 16 white)

-- the tile of the world of a map with these data
abbrev pub drawn_world : MapStyle → List Layer → List ℕ
drawn_world m data_layers = drawn_tile m 16 world data_layers
