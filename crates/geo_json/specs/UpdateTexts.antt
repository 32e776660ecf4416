-- The update that a text says, or its first fault in reading order.
use Rattle.std.specs.Prelude.{ℕ, Bool, ◌&&◌, nat_le, nat_lt, List, [], ◌∷◌, length, codes, Result, Ok}
use Rattle.std.specs.Option.{ok_or}
use Rattle.serde_json.specs.Data.{Data, no_items}
use Rattle.serde_json.specs.Find.{get}
use Rattle.serde_json.specs.Events.{items_len}
use Rattle.plain_shapes.specs.Data.{Change, is_name}
use Rattle.reading.specs.Json.{json_of}
use Rattle.reading.specs.Lists.{list_of}
use Rattle.reading.specs.Steps.{◌>>=◌, check}
use Rattle.reading.specs.Values.{needed, or_value, list}
use Rattle.geo_json.specs.Coordinates.{units_at}
use Rattle.geo_json.specs.FeatureTexts.{id_of, feature_after}
use Rattle.geo_json.specs.Openings.{object_of, name_at}
use Rattle.geo_json.specs.declared.faults.DataFault.{DataFault}
use Rattle.geo_json.specs.declared.faults.DataFault.TheVariants.{NotJson, Shape, TooMany}
use Rattle.geo_json.specs.declared.coordinates.Units.{Units}
use Rattle.plain_shapes.specs.Limits.{most_features}

-- the ids that a change removes, as a JSON list
unfoldable pub ids_in : DataFault → Data → Result (List ℕ) DataFault
ids_in shape d = list shape d >>= λ items. list_of (λ before id. id_of shape id) items

-- a change at its place: its own keys, how many puts it has, and then each feature; there is no
-- change after 1,000,000
unfoldable pub change_at : Units → ℕ → Data → Result Change DataFault
change_at units part d = do
  u ← check (nat_lt part most_features) (Shape most_features 0)
  u ← object_of (Shape part 0) (codes "layer" ∷ codes "remove" ∷ codes "put" ∷ []) d
  name ← name_at (Shape part 0) (codes "layer") d
  remove ← or_value [] (ids_in (Shape part 0)) (get (codes "remove") d)
  items ← or_value no_items (list (Shape part 0)) (get (codes "put") d)
  u ← check (nat_le (items_len items) most_features) (TooMany part)
  put ← list_of (feature_after units part) items
  Ok (record { layer = name; remove = remove; put = put })

-- what holds of a change that was read after those before it
abbrev pub is_read : List Change → Change → Bool
is_read before c =
    nat_lt (length before) most_features && is_name c.layer && nat_le (length c.put) most_features

-- an update by its units and changes
unfoldable pub changes_of : Data → Result (List Change) DataFault
changes_of d = do
  u ← object_of (Shape 0 0) (codes "units" ∷ codes "changes" ∷ []) d
  units ← units_at (Shape 0 0) d
  items ← needed (Shape 0 0) (list (Shape 0 0)) (get (codes "changes") d)
  list_of (λ before e. change_at units (length before) e) items

-- the update that the bytes say, as the list of its changes, or the first fault
unfoldable pub update_in : List ℕ → Result (List Change) DataFault
update_in bytes = ok_or (json_of bytes) NotJson >>= changes_of
