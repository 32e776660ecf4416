-- Each fault that a style text may be refused for has a text.
use Rattle.std.specs.Prelude.{ℕ, ◌^◌, Bool, true, false, List, [], length, not, codes, Option, Some, None, is_some, Result, Ok, Err, IsTrue, refl}
use Rattle.std.specs.Option.{ok_or}
use Rattle.std.specs.Result.{result_map_both}
use Rattle.std.specs.Str.{bytes_eq}
use Rattle.serde_json.specs.Data.{Data, no_items}
use Rattle.serde_json.specs.Find.{get, as_str, as_array}
use Rattle.plain_shapes.specs.declared.shapes.LineCap.TheVariants as cap
use Rattle.plain_drawing.specs.declared.style.FilterMode.TheVariants as mode
use Rattle.plain_shapes.specs.Limits.{most_name_bytes}
use Rattle.plain_drawing.specs.Limits.{most_symbolizers, most_rules, most_styles, most_map_layers, most_rasters, most_file_bytes}
use Rattle.plain_drawing.specs.Styles.{Style, LayerRef, RasterRef, style_has, layer_has, raster_has, is_text_to, is_width}
use Rattle.filter_expr.specs.declared.faults.FilterFault.TheVariants.{Bad, NumberRange, TooDeep, NoMemory}
use Rattle.filter_expr.specs.Lexing.{tokens_from}
use Rattle.filter_expr.specs.Reading.{Step, got, failed, whole_filter}
use Rattle.filter_expr.specs.FilterTexts.{filter_of, verdict}
use Rattle.filter_expr.proofs.Texts.{IsSaid, said}
use Rattle.paint_texts.specs.Colours.{rgb}
use Rattle.reading.specs.Json.{json_of}
use Rattle.reading.specs.Values.{text, list}
use Rattle.style_objects.specs.TextReadings.{text_reading}
use Rattle.style_objects.specs.declared.fault.At.{At}
use Rattle.style_objects.specs.declared.fault.StyleFault.{StyleFault}
use Rattle.style_objects.specs.declared.fault.StyleFault.TheVariants as fault
use Rattle.style_objects.specs.declared.keys.Object.{Object}
use Rattle.style_objects.specs.declared.keys.Object.TheVariants as object
use Rattle.style_objects.specs.Keys.{opened_as}
use Rattle.style_objects.specs.inner.Keys.{keys_of}
use Rattle.style_objects.specs.Kinds.{in_grammar, a_bound, a_width, a_text_to, any_text, mode_of, cap_of, a_number, a_filter, is_true, an_else}
use Rattle.style_objects.specs.declared.fault.Part.TheVariants as part
use Rattle.style_objects.specs.Places.{at_place}
use Rattle.style_objects.specs.Tables.{polygon_of, line_symbolizer_of, markers_of, raster_symbolizer_of, symbolizer_named, symbolizer_of, filters_of, rule_of, style_of, style_name_of, layer_of, raster_of, map_object, style_by, style_in}
use Rattle.exit_status.specs.StyleFaults.{style_text}
use Rattle.exit_status.specs.Told.{StylesAreTold}
use Rattle.exit_status.proofs.Steps.{OnFault, of_fault, step, either, checks, has, needs, may, opens, few, wholes, lists}

abbrev HasText : StyleFault → Type 0
HasText e = IsTrue (is_some (style_text e))

abbrev Told : {A : Type 0} → Result A StyleFault → Type 0
Told r = OnFault HasText r

-- ---- filters

filter_told : (text : List ℕ) (at : At) → Told (result_map_both (λ t. Some t) (λ f. fault.Filter at f) (filter_of text))
unfolding filter_of
filter_told text at = by (whole_filter (tokens_from 0 0 text)) (said text)
  where
    by : (r : Step _) → IsSaid text r → Told (result_map_both (λ t. Some t) (λ f. fault.Filter at f) (verdict r))
    by (got d ts) h = tt
    by (failed (Bad o) ts) h = refl
    by (failed (NumberRange o) ts) h = refl
    by (failed (TooDeep o) ts) h = refl
    by (failed NoMemory ts) h = absurd h.5

-- ---- kinds of values

string_told : (at : At) (d : Data) → Told (ok_or (as_str d) (fault.Shape at))
string_told at d = has HasText (as_str d) (fault.Shape at) refl

grammar_told : {A : Type 0} (value : List ℕ → Option A) (at : At) (d : Data) → Told (in_grammar value at d)
grammar_told value at d = step HasText _ _ (string_told at d) (λ s. has HasText (value s) (fault.Text at) refl)

bound_told : (at : At) (d : Data) → Told (a_bound text_reading at d)
unfolding a_bound
bound_told at d = step HasText _ _ (grammar_told text_reading.hundredths at d) (λ n. tt)

width_told : (at : At) (d : Data) → Told (a_width text_reading at d)
unfolding a_width
width_told at d = step HasText _ _ (grammar_told _ at d) (λ n. either HasText (is_width n) (Ok n) (Err (fault.Range at)) tt refl)

text_told : (limit : ℕ) (at : At) (d : Data) → Told (a_text_to limit at d)
unfolding a_text_to
text_told limit at d = step HasText _ _ (string_told at d) (λ s. either HasText (is_text_to limit s) (Ok s) (Err (fault.Text at)) tt refl)

any_told : (at : At) (d : Data) → Told (any_text at d)
unfolding any_text
any_told at d = step HasText _ _ (string_told at d) (λ s. tt)

number_told : (low : ℕ) (at : At) (d : Data) → Told (a_number low at d)
unfolding a_number
number_told low at d = wholes HasText (fault.Shape at) (fault.Range at) low (2 ^ 30) d refl refl

filter_at_told : (at : At) (d : Data) → Told (a_filter text_reading at d)
unfolding a_filter
filter_at_told at d = step HasText _ _ (string_told at d) (λ s. filter_told s at)

else_told : (has_filter : Bool) (at : At) (d : Data) → Told (an_else has_filter at d)
unfolding an_else
else_told has_filter at d = step HasText _ _ (checks HasText (is_true d) (fault.Shape at) refl) (λ u. either HasText has_filter (Err (fault.Shape at)) (Ok true) refl tt)

opened_told : (kind : Object) (at : At) (d : Data) → Told (opened_as (keys_of kind) at d)
unfolding opened_as
opened_told kind at d = opens HasText (fault.Shape at) (fault.Unsupported at) (keys_of kind) d refl refl

-- ---- objects

polygon_told : (at : At) (d : Data) → Told (polygon_of text_reading at d)
unfolding polygon_of
polygon_told at d =
    step HasText _ _ (opened_told object.PolygonSymbolizer at d) (λ u.
    step HasText _ _ (may HasText (rgb 128 128 128) (in_grammar text_reading.colour at) (get (codes "fill") d) (grammar_told text_reading.colour at)) (λ fill.
    step HasText _ _ (may HasText 1000 (in_grammar text_reading.thousandths at) (get (codes "fill-opacity") d) (grammar_told text_reading.thousandths at)) (λ opacity. tt)))

line_told : (at : At) (d : Data) → Told (line_symbolizer_of text_reading at d)
unfolding line_symbolizer_of
line_told at d =
    step HasText _ _ (opened_told object.LineSymbolizer at d) (λ u.
    step HasText _ _ (may HasText (rgb 0 0 0) (in_grammar text_reading.colour at) (get (codes "stroke") d) (grammar_told text_reading.colour at)) (λ stroke.
    step HasText _ _ (may HasText 100 (a_width text_reading at) (get (codes "stroke-width") d) (width_told at)) (λ width.
    step HasText _ _ (may HasText 1000 (in_grammar text_reading.thousandths at) (get (codes "stroke-opacity") d) (grammar_told text_reading.thousandths at)) (λ opacity.
    step HasText _ _ (may HasText cap.Butt (in_grammar cap_of at) (get (codes "stroke-linecap") d) (grammar_told cap_of at)) (λ linecap.
    step HasText _ _ (may HasText tt (any_text at) (get (codes "stroke-linejoin") d) (any_told at)) (λ v. tt))))))

markers_told : (at : At) (d : Data) → Told (markers_of text_reading at d)
unfolding markers_of
markers_told at d =
    step HasText _ _ (opened_told object.MarkersSymbolizer at d) (λ u.
    step HasText _ _ (needs HasText (fault.Shape at) (in_grammar text_reading.colour at) (get (codes "fill") d) refl (grammar_told text_reading.colour at)) (λ fill.
    step HasText _ _ (needs HasText (fault.Shape at) (a_width text_reading at) (get (codes "width") d) refl (width_told at)) (λ width.
    step HasText _ _ (needs HasText (fault.Shape at) (a_width text_reading at) (get (codes "height") d) refl (width_told at)) (λ height.
    step HasText _ _ (may HasText 1000 (in_grammar text_reading.thousandths at) (get (codes "opacity") d) (grammar_told text_reading.thousandths at)) (λ opacity. tt)))))

raster_symbolizer_told : (at : At) (d : Data) → Told (raster_symbolizer_of text_reading at d)
unfolding raster_symbolizer_of
raster_symbolizer_told at d =
    step HasText _ _ (opened_told object.RasterSymbolizer at d) (λ u.
    step HasText _ _ (may HasText 1000 (in_grammar text_reading.thousandths at) (get (codes "opacity") d) (grammar_told text_reading.thousandths at)) (λ opacity. tt))

named_told : (name : List ℕ) (at : At) (d : Data) → Told (symbolizer_named text_reading name at d)
unfolding symbolizer_named
named_told name at d =
    either HasText (bytes_eq name (codes "PolygonSymbolizer")) _ _ (polygon_told at d) (
    either HasText (bytes_eq name (codes "LineSymbolizer")) _ _ (line_told at d) (
    either HasText (bytes_eq name (codes "MarkersSymbolizer")) _ _ (markers_told at d) (
    either HasText (bytes_eq name (codes "RasterSymbolizer")) _ _ (raster_symbolizer_told at d) refl)))

symbolizer_told : (at : At) (d : Data) → Told (symbolizer_of text_reading at d)
unfolding symbolizer_of
symbolizer_told at d = step HasText _ _ (needs HasText (fault.Shape at) (text (fault.Shape at)) (get (codes "symbolizer") d) refl (string_told at)) (λ name. named_told name at d)

filters_told : (at : At) (d : Data) → Told (filters_of text_reading at d)
unfolding filters_of
filters_told at d =
    step HasText _ _ (may HasText None (a_filter text_reading at) (get (codes "Filter") d) (filter_at_told at)) (λ filter.
    step HasText _ _ (may HasText false (an_else (is_some filter) at) (get (codes "ElseFilter") d) (else_told (is_some filter) at)) (λ else_filter. tt))

rule_told : (at : At) (d : Data) → Told (rule_of text_reading at d)
unfolding rule_of
rule_told at d =
    step HasText _ _ (opened_told object.Rule at d) (λ u.
    step HasText _ _ (few HasText most_symbolizers (fault.Range at) (get (codes "symbolizers") d) refl) (λ found.
    step HasText _ _ (filters_told at d) (λ filters.
    step HasText _ _ (may HasText 0 (in_grammar text_reading.hundredths at) (get (codes "MinScaleDenominator") d) (grammar_told text_reading.hundredths at)) (λ least.
    step HasText _ _ (may HasText None (a_bound text_reading at) (get (codes "MaxScaleDenominator") d) (bound_told at)) (λ greatest.
    step HasText _ _ (has HasText found (fault.Shape at) refl) (λ items.
    step HasText _ _ (lists HasText (λ before e. symbolizer_of text_reading (at_place part.Symbolizer at.first at.second (length before)) e) [] items
    (λ before e. symbolizer_told (at_place part.Symbolizer at.first at.second (length before)) e)) (λ symbolizers. tt)))))))

style_told : (at : At) (before : List Style) (d : Data) → Told (style_of text_reading at before d)
unfolding style_of
style_told at before d =
    step HasText _ _ (opened_told object.Style at d) (λ u.
    step HasText _ _ (few HasText most_rules (fault.Range at) (get (codes "rules") d) refl) (λ found.
    step HasText _ _ (needs HasText (fault.Shape at) (a_text_to most_name_bytes at) (get (codes "name") d) refl (text_told most_name_bytes at)) (λ name.
    step HasText _ _ (may HasText mode.All (in_grammar mode_of at) (get (codes "filter-mode") d) (grammar_told mode_of at)) (λ filter_mode.
    step HasText _ _ (has HasText found (fault.Shape at) refl) (λ items.
    step HasText _ _ (checks HasText (not (style_has name before)) (fault.Double at) refl) (λ v.
    step HasText _ _ (lists HasText (λ before e. rule_of text_reading (at_place part.Rule at.first (length before) 0) e) [] items (λ before e. rule_told (at_place part.Rule at.first (length before) 0) e)) (λ rules. tt)))))))

style_name_told : (styles : List Style) (at : At) (before : List (List ℕ)) (d : Data) → Told (style_name_of styles at before d)
unfolding style_name_of
style_name_told styles at before d =
    step HasText _ _ (text_told most_name_bytes at d) (λ name.
    step HasText _ _ (checks HasText (style_has name styles) (fault.NoStyle at) refl) (λ u. tt))

layer_told : (styles : List Style) (at : At) (before : List LayerRef) (d : Data) → Told (layer_of text_reading styles at before d)
unfolding layer_of
layer_told styles at before d =
    step HasText _ _ (opened_told object.Layer at d) (λ u.
    step HasText _ _ (needs HasText (fault.Shape at) (a_text_to most_name_bytes at) (get (codes "name") d) refl (text_told most_name_bytes at)) (λ name.
    step HasText _ _ (needs HasText (fault.Shape at) (a_text_to most_name_bytes at) (get (codes "source") d) refl (text_told most_name_bytes at)) (λ source.
    step HasText _ _ (may HasText 0 (in_grammar text_reading.hundredths at) (get (codes "minimum-scale-denominator") d) (grammar_told text_reading.hundredths at)) (λ least.
    step HasText _ _ (may HasText None (a_bound text_reading at) (get (codes "maximum-scale-denominator") d) (bound_told at)) (λ greatest.
    step HasText _ _ (needs HasText (fault.Shape at) (list (fault.Shape at)) (get (codes "styles") d) refl (λ e. has HasText (as_array e) (fault.Shape at) refl)) (λ items.
    step HasText _ _ (lists HasText (style_name_of styles at) [] items (style_name_told styles at)) (λ names.
    step HasText _ _ (checks HasText (not (layer_has name before)) (fault.Double at) refl) (λ v. tt))))))))

raster_told : (at : At) (before : List RasterRef) (d : Data) → Told (raster_of at before d)
unfolding raster_of
raster_told at before d =
    step HasText _ _ (opened_told object.Raster at d) (λ u.
    step HasText _ _ (needs HasText (fault.Shape at) (a_text_to most_name_bytes at) (get (codes "name") d) refl (text_told most_name_bytes at)) (λ name.
    step HasText _ _ (needs HasText (fault.Shape at) (a_text_to most_file_bytes at) (get (codes "file") d) refl (text_told most_file_bytes at)) (λ file.
    step HasText _ _ (needs HasText (fault.Shape at) (a_number 0 at) (get (codes "west") d) refl (number_told 0 at)) (λ west.
    step HasText _ _ (needs HasText (fault.Shape at) (a_number 0 at) (get (codes "north") d) refl (number_told 0 at)) (λ north.
    step HasText _ _ (needs HasText (fault.Shape at) (a_number 1 at) (get (codes "pixel") d) refl (number_told 1 at)) (λ pixel.
    step HasText _ _ (checks HasText (not (raster_has name before)) (fault.Double at) refl) (λ v. tt)))))))

map_told : (at : At) (d : Data) → Told (map_object text_reading at d)
unfolding map_object
map_told at d =
    step HasText _ _ (opened_told object.Map at d) (λ u.
    step HasText _ _ (few HasText most_styles (fault.Range at) (get (codes "styles") d) refl) (λ found_styles.
    step HasText _ _ (few HasText most_map_layers (fault.Range at) (get (codes "layers") d) refl) (λ found_layers.
    step HasText _ _ (few HasText most_rasters (fault.Range at) (get (codes "rasters") d) refl) (λ found_rasters.
    step HasText _ _ (may HasText (rgb 255 255 255) (in_grammar text_reading.colour at) (get (codes "background-color") d) (grammar_told text_reading.colour at)) (λ background.
    step HasText _ _ (has HasText found_styles (fault.Shape at) refl) (λ style_items.
    step HasText _ _ (has HasText found_layers (fault.Shape at) refl) (λ layer_items.
    step HasText _ _ (may HasText no_items (list (fault.Shape at)) (get (codes "rasters") d) (λ e. has HasText (as_array e) (fault.Shape at) refl)) (λ raster_items.
    step HasText _ _ (lists HasText (λ before e. raster_of (at_place part.Raster (length before) 0 0) before e) [] raster_items (λ before e. raster_told (at_place part.Raster (length before) 0 0) before e)) (λ rasters.
    step HasText _ _ (lists HasText (λ before e. style_of text_reading (at_place part.Style (length before) 0 0) before e) [] style_items
    (λ before e. style_told (at_place part.Style (length before) 0 0) before e)) (λ styles.
    step HasText _ _ (lists HasText (λ before e. layer_of text_reading styles (at_place part.Layer (length before) 0 0) before e) [] layer_items
    (λ before e. layer_told styles (at_place part.Layer (length before) 0 0) before e)) (λ layers. tt)))))))))))

in_told : (bytes : List ℕ) → Told (style_in bytes)
unfolding style_by
in_told bytes = step HasText _ _ (has HasText (json_of bytes) fault.NotJson refl) (map_told (at_place part.Map 0 0 0))

pub styles_are_told : StylesAreTold
styles_are_told bytes e q = of_fault HasText (style_in bytes) e (in_told bytes) q
