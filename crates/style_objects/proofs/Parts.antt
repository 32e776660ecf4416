-- A rule is the same when it is read in parts, and a map when its rasters are those that were found.
use Rattle.std.proofs.Common.{◌≡◌, ℕ, List, [], length, Option, None, Result, Ok, Err, codes, refl, sym}
use Rattle.std.specs.Prelude.{Bool, true, false, nat_le, if◌then◌else◌, Some}
use Rattle.std.specs.Option.{ok_or}
use Rattle.serde_json.specs.Data.{Data, Items, no_items}
use Rattle.serde_json.specs.Find.{get, as_array}
use Rattle.serde_json.specs.Events.{items_len}
use Rattle.plain_drawing.specs.declared.style.Symbolizer.{Symbolizer}
use Rattle.plain_drawing.specs.Styles.{Rule}
use Rattle.plain_drawing.specs.Limits.{most_symbolizers, most_styles, most_map_layers, most_rasters}
use Rattle.reading.specs.Lists.{list_of}
use Rattle.reading.specs.Steps.{◌>>=◌}
use Rattle.reading.specs.Values.{or_value, list, items_within, within}
use Rattle.style_objects.specs.declared.fault.StyleFault.TheVariants as fault
use Rattle.style_objects.specs.declared.fault.StyleFault.{StyleFault}
use Rattle.paint_texts.specs.Colours.{rgb}
use Rattle.style_objects.specs.declared.keys.Object.TheVariants as object
use Rattle.style_objects.specs.TextReadings.{TextReading}
use Rattle.style_objects.specs.Keys.{opened_as}
use Rattle.style_objects.specs.inner.Keys.{keys_of}
use Rattle.style_objects.specs.declared.fault.At.{At}
use Rattle.style_objects.specs.declared.fault.Part.TheVariants as part
use Rattle.style_objects.specs.Kinds.{in_grammar, a_bound}
use Rattle.style_objects.specs.Places.{at_place}
use Rattle.style_objects.specs.Tables.{filters_of, rule_of, symbolizer_of, raster_of, style_of, layer_of, map_object}
use Rattle.style_objects.specs.inner.Parts.{painting_of, rule_by_parts, list_or_none, map_lists, map_by_parts}

abbrev painting : ℕ → Option ℕ → List Symbolizer → ℕ × Option ℕ × List Symbolizer
painting x y z = (x, y, z)

grouped : {E : Type 0} (a : Result ℕ E) (b : Result (Option ℕ) E) (c : Result Items E) (d : Items → Result (List Symbolizer) E) (K : ℕ × Option ℕ × List Symbolizer → Rule) →
    (a >>= λ x. b >>= λ y. c >>= λ items. d items >>= λ z. Ok (K (painting x y z)))
    ≡ ((a >>= λ x. b >>= λ y. c >>= λ items. d items >>= λ z. Ok (painting x y z)) >>= λ p. Ok (K p))
grouped (Err e) b c d K = refl
grouped (Ok x) (Err e) c d K = refl
grouped (Ok x) (Ok y) (Err e) d K = refl
grouped {E = E} (Ok x) (Ok y) (Ok items) d K = last (d items)
  where
    last : (r : Result (List Symbolizer) E) → (r >>= λ z. Ok (K (painting x y z))) ≡ ((r >>= λ z. Ok (painting x y z)) >>= λ p. Ok (K p))
    last (Err e) = refl
    last (Ok z) = refl

pub in_parts : (says : TextReading) (at : At) (d : Data) → rule_of says at d ≡ rule_by_parts says at d
unfolding rule_of rule_by_parts painting_of
in_parts says at d = λ i.
    opened_as (keys_of object.Rule) at d >>= λ u. within most_symbolizers (fault.Range at) (get (codes "symbolizers") d) >>= λ found.
    filters_of says at d >>= λ filters.
    grouped (or_value 0 (in_grammar says.hundredths at) (get (codes "MinScaleDenominator") d)) (or_value None (a_bound says at) (get (codes "MaxScaleDenominator") d))
    (ok_or found (fault.Shape at)) (list_of (λ before e. symbolizer_of says (at_place part.Symbolizer at.first at.second (length before)) e))
    (λ p. record { filter = filters.0; else_filter = filters.1; min_scale_denominator = p.0; max_scale_denominator = p.1; symbolizers = p.2 }) i

-- where a list within its limit was found at a key, or none, the value at the key is that list
found_list : {A : Type 0} (at : At) (limit : ℕ) (range : StyleFault) (o : Option Data) (on : Result Items StyleFault → Result A StyleFault)
    → (within limit range o >>= λ found. on (list_or_none at found o)) ≡ (within limit range o >>= λ found. on (or_value no_items (list (fault.Shape at)) o))
unfolding within
found_list at limit range None on = refl
found_list at limit range (Some d) on = by (as_array d)
  where
    by : (a : Option Items) → (items_within limit range a >>= λ found. on (list_or_none at found (Some d))) ≡ (items_within limit range a >>= λ found. on (ok_or a (fault.Shape at)))
    by None = refl
    by (Some items) = fits (nat_le (items_len items) limit)
      where
        fits : (b : Bool) → ((if b then Ok (Some items) else Err range) >>= λ found. on (list_or_none at found (Some d))) ≡ ((if b then Ok (Some items) else Err range) >>= λ found. on (ok_or (Some items) (fault.Shape at)))
        fits true = refl
        fits false = refl

pub map_in_parts : (says : TextReading) (at : At) (d : Data) → map_object says at d ≡ map_by_parts says at d
unfolding map_object map_by_parts map_lists
map_in_parts says at d = λ i.
    opened_as (keys_of object.Map) at d >>= λ u. within most_styles (fault.Range at) (get (codes "styles") d) >>= λ found_styles.
    within most_map_layers (fault.Range at) (get (codes "layers") d) >>= λ found_layers.
    sym (found_list at most_rasters (fault.Range at) (get (codes "rasters") d) (λ read.
    or_value (rgb 255 255 255) (in_grammar says.colour at) (get (codes "background-color") d) >>= λ background.
    ok_or found_styles (fault.Shape at) >>= λ style_items. ok_or found_layers (fault.Shape at) >>= λ layer_items. read >>= λ raster_items.
    list_of (λ before e. raster_of (at_place part.Raster (length before) 0 0) before e) raster_items >>= λ rasters.
    list_of (λ before e. style_of says (at_place part.Style (length before) 0 0) before e) style_items >>= λ styles.
    list_of (λ before e. layer_of says styles (at_place part.Layer (length before) 0 0) before e) layer_items >>= λ layers.
    Ok (record { background_color = background; styles = styles; layers = layers; rasters = rasters; grids = [] }))) i
