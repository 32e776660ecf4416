-- The dataset that a text says, or its first fault in reading order.
use Rattle.std.specs.Prelude.{ℕ, Bool, ◌&&◌, not, nat_le, nat_lt, List, [], ◌∷◌, length, codes, Result, Ok}
use Rattle.std.specs.Option.{ok_or}
use Rattle.std.specs.List.{list_any}
use Rattle.std.specs.Str.{bytes_eq}
use Rattle.serde_json.specs.Data.{Data}
use Rattle.serde_json.specs.Find.{get}
use Rattle.serde_json.specs.Events.{items_len}
use Rattle.farm_base.specs.Earlier.{each_after}
use Rattle.plain_shapes.specs.Features.{Layer}
use Rattle.plain_shapes.specs.Data.{is_name}
use Rattle.reading.specs.Json.{json_of}
use Rattle.reading.specs.Lists.{list_of}
use Rattle.reading.specs.Steps.{◌>>=◌, check}
use Rattle.reading.specs.Values.{needed, list}
use Rattle.geo_json.specs.Coordinates.{units_at}
use Rattle.geo_json.specs.FeatureTexts.{new_feature_after, is_new}
use Rattle.geo_json.specs.Openings.{object_of, name_at}
use Rattle.geo_json.specs.declared.faults.DataFault.{DataFault}
use Rattle.geo_json.specs.declared.faults.DataFault.TheVariants.{NotJson, Shape, DoubleLayer, TooMany}
use Rattle.geo_json.specs.declared.coordinates.Units.{Units}
use Rattle.plain_shapes.specs.Limits.{most_data_layers, most_features}

-- a layer at its place after those before it: its own keys, its name among the earlier ones, how
-- many features it has, and then each feature; there is no layer after 64
unfoldable pub layer_said : Units → ℕ → List Layer → Data → Result Layer DataFault
layer_said units part before d = do
  u ← check (nat_lt part most_data_layers) (Shape most_data_layers 0)
  u ← object_of (Shape part 0) (codes "name" ∷ codes "features" ∷ []) d
  name ← name_at (Shape part 0) (codes "name") d
  items ← needed (Shape part 0) (list (Shape part 0)) (get (codes "features") d)
  u ← check (not (list_any (λ l. bytes_eq l.name name) before)) (DoubleLayer part)
  u ← check (nat_le (items_len items) most_features) (TooMany part)
  features ← list_of (new_feature_after units part) items
  Ok (record { name = name; features = features })

-- an earlier layer has the name, as the code asks it
abbrev pub has_layer : List Layer → List ℕ → Bool
has_layer before name = list_any (λ l. bytes_eq l.name name) before

-- what holds of a layer that was read after those before it
abbrev pub is_read : List Layer → Layer → Bool
is_read before l = nat_lt (length before) most_data_layers && not (has_layer before l.name)
    && is_name l.name && nat_le (length l.features) most_features && each_after is_new [] l.features

-- data by their units and layers
unfoldable pub layers_of : Data → Result (List Layer) DataFault
layers_of d = do
  u ← object_of (Shape 0 0) (codes "units" ∷ codes "layers" ∷ []) d
  units ← units_at (Shape 0 0) d
  items ← needed (Shape 0 0) (list (Shape 0 0)) (get (codes "layers") d)
  list_of (λ before e. layer_said units (length before) before e) items

-- the dataset that the bytes say, as the list of its layers, or the first fault
unfoldable pub dataset_in : List ℕ → Result (List Layer) DataFault
dataset_in bytes = ok_or (json_of bytes) NotJson >>= layers_of
