-- A rule and a map in the parts in which the code reads them. Words of inner contracts.
use Rattle.std.specs.Prelude.{ℕ, codes, List, [], length, Option, Some, None, Result, Ok, Err}
use Rattle.std.specs.Option.{ok_or}
use Rattle.serde_json.specs.Data.{Data, Items, no_items}
use Rattle.serde_json.specs.Find.{get}
use Rattle.plain_shapes.specs.declared.colour.Colour.{Colour}
use Rattle.plain_drawing.specs.declared.style.Symbolizer.{Symbolizer}
use Rattle.plain_drawing.specs.Styles.{Rule, MapStyle}
use Rattle.plain_drawing.specs.Limits.{most_symbolizers, most_styles, most_map_layers, most_rasters}
use Rattle.reading.specs.Lists.{list_of}
use Rattle.reading.specs.Steps.{◌>>=◌}
use Rattle.reading.specs.Values.{or_value, within}
use Rattle.style_objects.specs.declared.fault.StyleFault.{StyleFault}
use Rattle.style_objects.specs.declared.fault.StyleFault.TheVariants as fault
use Rattle.style_objects.specs.declared.keys.Object.TheVariants as object
use Rattle.style_objects.specs.TextReadings.{TextReading}
use Rattle.style_objects.specs.Keys.{opened_as}
use Rattle.style_objects.specs.inner.Keys.{keys_of}
use Rattle.style_objects.specs.declared.fault.At.{At}
use Rattle.style_objects.specs.declared.fault.Part.TheVariants as part
use Rattle.paint_texts.specs.Colours.{rgb}
use Rattle.style_objects.specs.Kinds.{in_grammar, a_bound}
use Rattle.style_objects.specs.Places.{at_place}
use Rattle.style_objects.specs.Tables.{filters_of, symbolizer_of, raster_of, style_of, layer_of}

-- what a rule has behind its filters: its two scales and its symbolizers
unfoldable pub painting_of : TextReading → At → Option Items → Data
    → Result (ℕ × Option ℕ × List Symbolizer) StyleFault
painting_of says at found d = do
  least ← or_value 0 (in_grammar says.hundredths at) (get (codes "MinScaleDenominator") d)
  greatest ← or_value None (a_bound says at) (get (codes "MaxScaleDenominator") d)
  items ← ok_or found (fault.Shape at)
  symbolizers ← list_of (λ before e. symbolizer_of says
      (at_place part.Symbolizer at.first at.second (length before)) e) items
  Ok (least, greatest, symbolizers)

-- a rule by its parts
unfoldable pub rule_by_parts : TextReading → At → Data → Result Rule StyleFault
rule_by_parts says at d = do
  u ← opened_as (keys_of object.Rule) at d
  found ← within most_symbolizers (fault.Range at) (get (codes "symbolizers") d)
  filters ← filters_of says at d
  painting ← painting_of says at found d
  Ok (record {
    filter = filters.0;
    else_filter = filters.1;
    min_scale_denominator = painting.0;
    max_scale_denominator = painting.1;
    symbolizers = painting.2;
  })

-- a list of rasters, which may be absent: its items were found within their limit, unless the value
-- is no list
abbrev pub list_or_none : At → Option Items → Option Data → Result Items StyleFault
list_or_none at (Some items) found = Ok items
list_or_none at None None = Ok no_items
list_or_none at None (Some d) = Err (fault.Shape at)

-- the map with this background and these lists: its rasters, then its styles, then its layers
unfoldable pub map_lists : TextReading → Colour → Items → Items → Items → Result MapStyle StyleFault
map_lists says background style_items layer_items raster_items = do
  rasters ← list_of (λ before e. raster_of (at_place part.Raster (length before) 0 0) before e)
      raster_items
  styles ← list_of
      (λ before e. style_of says (at_place part.Style (length before) 0 0) before e) style_items
  layers ← list_of (λ before e. layer_of says styles (at_place part.Layer (length before) 0 0)
      before e) layer_items
  Ok (record {
    background_color = background;
    styles = styles;
    layers = layers;
    rasters = rasters;
    grids = [];
  })

-- a map by its own keys and then its lists, whose rasters are those that were found within their
-- limit
unfoldable pub map_by_parts : TextReading → At → Data → Result MapStyle StyleFault
map_by_parts says at d = do
  u ← opened_as (keys_of object.Map) at d
  found_styles ← within most_styles (fault.Range at) (get (codes "styles") d)
  found_layers ← within most_map_layers (fault.Range at) (get (codes "layers") d)
  found_rasters ← within most_rasters (fault.Range at) (get (codes "rasters") d)
  background ← or_value (rgb 255 255 255) (in_grammar says.colour at)
      (get (codes "background-color") d)
  style_items ← ok_or found_styles (fault.Shape at)
  layer_items ← ok_or found_layers (fault.Shape at)
  raster_items ← list_or_none at found_rasters (get (codes "rasters") d)
  map_lists says background style_items layer_items raster_items
