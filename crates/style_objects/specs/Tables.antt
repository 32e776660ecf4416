-- What a style text says, object by object and key by key in reading order: the value, or the first
-- fault with the object that it stands in, whose place is `at`. A line is a step; the first step
-- that has a fault ends the reading. What the texts of filters, colours and numbers are is told by
-- a reading of them, `says`.
use Rattle.std.specs.Prelude.{ℕ, Bool, false, not, if◌then◌else◌, List, [], ◌∷◌, length, codes, Option, None, is_some, Result, Ok, Err}
use Rattle.std.specs.Option.{ok_or}
use Rattle.std.specs.Str.{bytes_eq}
use Rattle.serde_json.specs.Data.{Data, no_items}
use Rattle.serde_json.specs.Find.{get}
use Rattle.plain_shapes.specs.declared.shapes.LineCap.TheVariants as cap
use Rattle.plain_drawing.specs.declared.style.FilterMode.TheVariants as mode
use Rattle.plain_drawing.specs.declared.style.Symbolizer.{Symbolizer}
use Rattle.plain_drawing.specs.declared.style.Symbolizer.TheVariants as paint
use Rattle.plain_filters.specs.Filters.{FilterTree}
use Rattle.plain_drawing.specs.Styles.{Rule, Style, LayerRef, RasterRef, MapStyle, style_has, layer_has, raster_has}
use Rattle.paint_texts.specs.Colours.{rgb}
use Rattle.reading.specs.Json.{json_of}
use Rattle.reading.specs.Lists.{list_of}
use Rattle.reading.specs.Steps.{◌>>=◌, check}
use Rattle.reading.specs.Values.{needed, or_value, text, list, within}
use Rattle.style_objects.specs.declared.fault.At.{At}
use Rattle.style_objects.specs.declared.fault.Part.TheVariants as part
use Rattle.style_objects.specs.declared.fault.StyleFault.{StyleFault}
use Rattle.style_objects.specs.declared.fault.StyleFault.TheVariants as fault
use Rattle.style_objects.specs.TextReadings.{TextReading, text_reading}
use Rattle.style_objects.specs.Keys.{opened_as}
use Rattle.style_objects.specs.Kinds.{in_grammar, a_bound, a_width, a_text_to, any_text, mode_of, cap_of, a_number, a_filter, an_else}
use Rattle.style_objects.specs.Places.{at_place}
use Rattle.plain_shapes.specs.Limits.{most_name_bytes}
use Rattle.plain_drawing.specs.Limits.{most_styles, most_rules, most_symbolizers, most_map_layers, most_rasters, most_file_bytes}

-- a polygon symbolizer: its fill, which is gray where it is absent, and its opacity
unfoldable pub polygon_of : TextReading → At → Data → Result Symbolizer StyleFault
polygon_of says at d = do
  u ← opened_as (codes "symbolizer" ∷ codes "fill" ∷ codes "fill-opacity" ∷ []) at d
  fill ← or_value (rgb 128 128 128) (in_grammar says.colour at) (get (codes "fill") d)
  opacity ← or_value 1000 (in_grammar says.thousandths at) (get (codes "fill-opacity") d)
  Ok (paint.Polygon fill opacity)

-- a line symbolizer: its stroke, which is black where it is absent, its width, opacity and cap; a
-- join has no effect
unfoldable pub line_symbolizer_of : TextReading → At → Data → Result Symbolizer StyleFault
line_symbolizer_of says at d = do
  u ← opened_as (codes "symbolizer" ∷ codes "stroke" ∷ codes "stroke-width" ∷ codes "stroke-opacity"
      ∷ codes "stroke-linecap" ∷ codes "stroke-linejoin" ∷ []) at d
  stroke ← or_value (rgb 0 0 0) (in_grammar says.colour at) (get (codes "stroke") d)
  width ← or_value 100 (a_width says at) (get (codes "stroke-width") d)
  opacity ← or_value 1000 (in_grammar says.thousandths at) (get (codes "stroke-opacity") d)
  linecap ← or_value cap.Butt (in_grammar cap_of at) (get (codes "stroke-linecap") d)
  v ← or_value tt (any_text at) (get (codes "stroke-linejoin") d)
  Ok (paint.Line stroke width opacity linecap)

-- a markers symbolizer: its fill, width and height, which have to be there, and its opacity, which
-- may be absent
unfoldable pub markers_of : TextReading → At → Data → Result Symbolizer StyleFault
markers_of says at d = do
  u ← opened_as (codes "symbolizer" ∷ codes "fill" ∷ codes "width" ∷ codes "height"
      ∷ codes "opacity" ∷ []) at d
  fill ← needed (fault.Shape at) (in_grammar says.colour at) (get (codes "fill") d)
  width ← needed (fault.Shape at) (a_width says at) (get (codes "width") d)
  height ← needed (fault.Shape at) (a_width says at) (get (codes "height") d)
  opacity ← or_value 1000 (in_grammar says.thousandths at) (get (codes "opacity") d)
  Ok (paint.Markers fill width height opacity)

-- a raster symbolizer: its opacity, which may be absent
unfoldable pub raster_symbolizer_of : TextReading → At → Data → Result Symbolizer StyleFault
raster_symbolizer_of says at d = do
  u ← opened_as (codes "symbolizer" ∷ codes "opacity" ∷ []) at d
  opacity ← or_value 1000 (in_grammar says.thousandths at) (get (codes "opacity") d)
  Ok (paint.Raster opacity)

-- a symbolizer of the kind that has this name; an unknown name is Unsupported
unfoldable pub symbolizer_named : TextReading → List ℕ → At → Data → Result Symbolizer StyleFault
symbolizer_named says name at d =
    if bytes_eq name (codes "PolygonSymbolizer") then polygon_of says at d else
    if bytes_eq name (codes "LineSymbolizer") then line_symbolizer_of says at d else
    if bytes_eq name (codes "MarkersSymbolizer") then markers_of says at d else
    if bytes_eq name (codes "RasterSymbolizer") then raster_symbolizer_of says at d
    else Err (fault.Unsupported at)

-- a symbolizer of any kind: Shape where it is no object, or has no text at the key `symbolizer`
unfoldable pub symbolizer_of : TextReading → At → Data → Result Symbolizer StyleFault
symbolizer_of says at d = do
  name ← needed (fault.Shape at) (text (fault.Shape at)) (get (codes "symbolizer") d)
  symbolizer_named says name at d

-- a rule's Filter and ElseFilter, of which it has one at most
unfoldable pub filters_of : TextReading → At → Data → Result (Option FilterTree × Bool) StyleFault
filters_of says at d = do
  filter ← or_value None (a_filter says at) (get (codes "Filter") d)
  else_filter ← or_value false (an_else (is_some filter) at) (get (codes "ElseFilter") d)
  Ok (filter, else_filter)

-- a rule: its own keys, then its symbolizers
unfoldable pub rule_of : TextReading → At → Data → Result Rule StyleFault
rule_of says at d = do
  u ← opened_as (codes "Filter" ∷ codes "ElseFilter" ∷ codes "MinScaleDenominator"
      ∷ codes "MaxScaleDenominator" ∷ codes "symbolizers" ∷ []) at d
  found ← within most_symbolizers (fault.Range at) (get (codes "symbolizers") d)
  filters ← filters_of says at d
  least ← or_value 0 (in_grammar says.hundredths at) (get (codes "MinScaleDenominator") d)
  greatest ← or_value None (a_bound says at) (get (codes "MaxScaleDenominator") d)
  items ← ok_or found (fault.Shape at)
  symbolizers ← list_of (λ before e. symbolizer_of says
      (at_place part.Symbolizer at.first at.second (length before)) e) items
  Ok (record {
    filter = filters.0;
    else_filter = filters.1;
    min_scale_denominator = least;
    max_scale_denominator = greatest;
    symbolizers = symbolizers;
  })

-- a style: its own keys, then Double where an earlier style has its name, then its rules
unfoldable pub style_of : TextReading → At → List Style → Data → Result Style StyleFault
style_of says at before d = do
  u ← opened_as (codes "name" ∷ codes "filter-mode" ∷ codes "rules" ∷ []) at d
  found ← within most_rules (fault.Range at) (get (codes "rules") d)
  name ← needed (fault.Shape at) (a_text_to most_name_bytes at) (get (codes "name") d)
  filter_mode ← or_value mode.All (in_grammar mode_of at) (get (codes "filter-mode") d)
  items ← ok_or found (fault.Shape at)
  v ← check (not (style_has name before)) (fault.Double at)
  rules ← list_of (λ before e. rule_of says (at_place part.Rule at.first (length before) 0) e) items
  Ok (record { name = name; filter_mode = filter_mode; rules = rules })

-- a name in a layer's list: a text, of 1 to 64 bytes, that some style has
unfoldable pub style_name_of : List Style → At → List (List ℕ) → Data → Result (List ℕ) StyleFault
style_name_of styles at before d = do
  name ← a_text_to most_name_bytes at d
  u ← check (style_has name styles) (fault.NoStyle at)
  Ok name

-- a layer; an earlier layer of its name is Double, after its keys
unfoldable pub layer_of : TextReading → List Style → At → List LayerRef → Data
    → Result LayerRef StyleFault
layer_of says styles at before d = do
  u ← opened_as (codes "name" ∷ codes "source" ∷ codes "minimum-scale-denominator"
      ∷ codes "maximum-scale-denominator" ∷ codes "styles" ∷ []) at d
  name ← needed (fault.Shape at) (a_text_to most_name_bytes at) (get (codes "name") d)
  source ← needed (fault.Shape at) (a_text_to most_name_bytes at) (get (codes "source") d)
  least ← or_value 0 (in_grammar says.hundredths at) (get (codes "minimum-scale-denominator") d)
  greatest ← or_value None (a_bound says at) (get (codes "maximum-scale-denominator") d)
  items ← needed (fault.Shape at) (list (fault.Shape at)) (get (codes "styles") d)
  names ← list_of (style_name_of styles at) items
  v ← check (not (layer_has name before)) (fault.Double at)
  Ok (record {
    name = name;
    source = source;
    minimum_scale_denominator = least;
    maximum_scale_denominator = greatest;
    styles = names;
  })

-- a raster; an earlier raster of its name is Double, after its keys
unfoldable pub raster_of : At → List RasterRef → Data → Result RasterRef StyleFault
raster_of at before d = do
  u ← opened_as
      (codes "name" ∷ codes "file" ∷ codes "west" ∷ codes "north" ∷ codes "pixel" ∷ []) at d
  name ← needed (fault.Shape at) (a_text_to most_name_bytes at) (get (codes "name") d)
  file ← needed (fault.Shape at) (a_text_to most_file_bytes at) (get (codes "file") d)
  west ← needed (fault.Shape at) (a_number 0 at) (get (codes "west") d)
  north ← needed (fault.Shape at) (a_number 0 at) (get (codes "north") d)
  pixel ← needed (fault.Shape at) (a_number 1 at) (get (codes "pixel") d)
  v ← check (not (raster_has name before)) (fault.Double at)
  Ok (record { name = name; file = file; west = west; north = north; pixel = pixel })

-- The map: its own keys, then its rasters, its styles and its layers. A background that is absent
-- is white, this project's own choice, for Mapnik's is transparent.
unfoldable pub map_object : TextReading → At → Data → Result MapStyle StyleFault
map_object says at d = do
  u ← opened_as
      (codes "background-color" ∷ codes "styles" ∷ codes "layers" ∷ codes "rasters" ∷ []) at d
  found_styles ← within most_styles (fault.Range at) (get (codes "styles") d)
  found_layers ← within most_map_layers (fault.Range at) (get (codes "layers") d)
  found_rasters ← within most_rasters (fault.Range at) (get (codes "rasters") d)
  background ← or_value (rgb 255 255 255) (in_grammar says.colour at)
      (get (codes "background-color") d)
  style_items ← ok_or found_styles (fault.Shape at)
  layer_items ← ok_or found_layers (fault.Shape at)
  raster_items ← or_value no_items (list (fault.Shape at)) (get (codes "rasters") d)
  rasters ← list_of (λ before e. raster_of (at_place part.Raster (length before) 0 0) before e)
      raster_items
  styles ← list_of
      (λ before e. style_of says (at_place part.Style (length before) 0 0) before e) style_items
  layers ← list_of (λ before e. layer_of says styles (at_place part.Layer (length before) 0 0)
      before e) layer_items
  Ok (record {
    background_color = background;
    styles = styles;
    layers = layers;
    rasters = rasters;
    grids = [];
  })

-- what the bytes of a style say, where its texts are read so
unfoldable pub style_by : TextReading → List ℕ → Result MapStyle StyleFault
style_by says bytes =
    ok_or (json_of bytes) fault.NotJson >>= map_object says (at_place part.Map 0 0 0)

-- The same, where texts are read by the functions that go over them byte after byte. By the
-- grammars there is one reading, and this is it (`law_styles_by_grammar`).
abbrev pub style_in : List ℕ → Result MapStyle StyleFault
style_in bytes = style_by text_reading bytes
