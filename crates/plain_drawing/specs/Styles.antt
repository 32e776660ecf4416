-- Map styles as plain records, and what their values keep.
use Rattle.std.specs.Prelude.{ℕ, ◌*◌, ◌≤◌, ◌^◌, Bool, true, false, not, ◌&&◌, ◌==◌, nat_le, IsTrue, All, List, [], ◌∷◌, length, Option, is_some}
use Rattle.std.specs.List.{list_any, list_all}
use Rattle.std.specs.Str.{bytes_eq}
use Rattle.farm_base.specs.Earlier.{each_after}
use Rattle.plain_shapes.specs.declared.colour.Colour.{Colour}
use Rattle.plain_drawing.specs.declared.style.FilterMode.{FilterMode}
use Rattle.plain_drawing.specs.declared.style.Symbolizer.{Symbolizer}
use Rattle.plain_drawing.specs.declared.style.Symbolizer.TheVariants.{Polygon, Line, Markers, Raster}
use Rattle.plain_filters.specs.Filters.{FilterTree}
use Rattle.plain_shapes.specs.Limits.{most_name_bytes, most_width}
use Rattle.plain_drawing.specs.Limits.{most_styles, most_rules, most_symbolizers, most_map_layers, most_rasters, most_file_bytes}
use Rattle.plain_drawing.specs.Grids.{Grid}

-- a rule: its filter, if it has one, whether it is an ElseFilter rule, its scales in hundredths,
-- what it paints
pub record Rule : Type 0 where
  pub filter : Option FilterTree
  pub else_filter : Bool
  pub min_scale_denominator : ℕ
  pub max_scale_denominator : Option ℕ
  pub symbolizers : List Symbolizer

-- a style: its name, how its Filter rules are taken, and its rules
pub record Style : Type 0 where
  pub name : List ℕ
  pub filter_mode : FilterMode
  pub rules : List Rule

-- a layer of a map: its name, the data layer or raster that it draws, its scales in hundredths, the
-- names of its styles
pub record LayerRef : Type 0 where
  pub name : List ℕ
  pub source : List ℕ
  pub minimum_scale_denominator : ℕ
  pub maximum_scale_denominator : Option ℕ
  pub styles : List (List ℕ)

-- a raster of a map: its name, its file, the place of its grid and the side of its pixels
pub record RasterRef : Type 0 where
  pub name : List ℕ
  pub file : List ℕ
  pub west : ℕ
  pub north : ℕ
  pub pixel : ℕ

-- a whole map style
pub record MapStyle : Type 0 where
  pub background_color : Colour
  pub styles : List Style
  pub layers : List LayerRef
  pub rasters : List RasterRef
  pub grids : List Grid

-- a text of 1 to so many bytes
abbrev pub is_text_to : ℕ → List ℕ → Bool
is_text_to limit text = nat_le 1 (length text) && nat_le (length text) limit

-- a width or height of 0.01 to 64 pixels, in hundredths
abbrev pub is_width : ℕ → Bool
is_width w = nat_le 1 w && nat_le w (100 * most_width)

-- an opacity of 0 to 1, in thousandths
abbrev pub is_opacity : ℕ → Bool
is_opacity a = nat_le a 1000

-- what every symbolizer of a rule keeps
abbrev pub is_paint : Symbolizer → Bool
is_paint (Polygon fill opacity) = is_opacity opacity
is_paint (Line stroke width opacity cap) = is_width width && is_opacity opacity
is_paint (Markers fill width height opacity) =
    is_width width && is_width height && is_opacity opacity
is_paint (Raster opacity) = is_opacity opacity

-- every symbolizer of the style keeps its ranges
abbrev pub KeepsRanges : Style → Type 0
KeepsRanges style = All (λ r. IsTrue (list_all is_paint r.symbolizers)) style.rules

-- a style of this name is among them
abbrev pub style_has : List ℕ → List Style → Bool
style_has name styles = list_any (λ s. bytes_eq s.name name) styles

-- a layer of this name is among them
abbrev pub layer_has : List ℕ → List LayerRef → Bool
layer_has name layers = list_any (λ l. bytes_eq l.name name) layers

-- a raster of this name is among them
abbrev pub raster_has : List ℕ → List RasterRef → Bool
raster_has name rasters = list_any (λ r. bytes_eq r.name name) rasters

-- no earlier style has the name
abbrev pub style_apart : List Style → Style → Bool
style_apart before s = not (style_has s.name before)

-- no earlier raster has the name
abbrev pub raster_apart : List RasterRef → RasterRef → Bool
raster_apart before r = not (raster_has r.name before)

-- no earlier layer has the name, and each style that the layer names is there
abbrev pub layer_apart : List Style → List LayerRef → LayerRef → Bool
layer_apart styles before l =
    not (layer_has l.name before) && list_all (λ name. style_has name styles) l.styles

-- the grid has the raster's name, place and pixel
abbrev pub grid_matches : RasterRef → Grid → Bool
grid_matches r g =
    bytes_eq r.name g.name && r.west == g.west && r.north == g.north && r.pixel == g.pixel

-- as many grids as rasters, each matching the raster at its place
abbrev pub grids_match : List RasterRef → List Grid → Bool
grids_match [] [] = true
grids_match [] (g ∷ gs) = false
grids_match (r ∷ rs) [] = false
grids_match (r ∷ rs) (g ∷ gs) = grid_matches r g && grids_match rs gs

-- no grids, or those of the rasters
abbrev pub are_bound : List RasterRef → List Grid → Bool
are_bound rasters [] = true
are_bound rasters (g ∷ gs) = grids_match rasters (g ∷ gs)

-- what every rule keeps: no filter beside ElseFilter, and at most 16 symbolizers within their
-- ranges
pub record IsRule (else_filter : Bool) (filter : Option FilterTree)
    (symbolizers : List Symbolizer) : Type 0 where
  pub one_kind : IsTrue (not (else_filter && is_some filter))
  pub few : length symbolizers ≤ most_symbolizers
  pub paints : IsTrue (list_all is_paint symbolizers)

-- what every style keeps: a name of 1 to 64 bytes and at most 256 rules
pub record IsStyle (name : List ℕ) (rules : List Rule) : Type 0 where
  pub name_fits : IsTrue (is_text_to most_name_bytes name)
  pub few : length rules ≤ most_rules

-- what every layer of a map keeps: a name and a source of 1 to 64 bytes
pub record IsLayerRef (name source : List ℕ) : Type 0 where
  pub name_fits : IsTrue (is_text_to most_name_bytes name)
  pub source_fits : IsTrue (is_text_to most_name_bytes source)

-- what every raster of a map keeps: a name of 1 to 64 bytes, a file of 1 to 100, a place in the
-- world, a pixel of 1 to 2^30 units
pub record IsRasterRef (name file : List ℕ) (west north pixel : ℕ) : Type 0 where
  pub name_fits : IsTrue (is_text_to most_name_bytes name)
  pub file_fits : IsTrue (is_text_to most_file_bytes file)
  pub west_fits : west ≤ 2 ^ 30
  pub north_fits : north ≤ 2 ^ 30
  pub some_pixel : 1 ≤ pixel
  pub pixel_fits : pixel ≤ 2 ^ 30

-- what every map style keeps: at most 256 styles, 64 layers and 2 rasters with distinct names, each
-- named style there, grids bound or none
pub record IsMapStyle (styles : List Style) (layers : List LayerRef) (rasters : List RasterRef)
    (grids : List Grid) : Type 0 where
  pub few_styles : length styles ≤ most_styles
  pub few_layers : length layers ≤ most_map_layers
  pub few_rasters : length rasters ≤ most_rasters
  pub styles_apart : IsTrue (each_after style_apart [] styles)
  pub layers_apart : IsTrue (each_after (layer_apart styles) [] layers)
  pub rasters_apart : IsTrue (each_after raster_apart [] rasters)
  pub grids_bound : IsTrue (are_bound rasters grids)
