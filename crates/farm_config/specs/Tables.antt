-- What a configuration says, key by key in reading order: the value, or the first fault with the
-- number of its key. A line is a step; the first step that has a fault ends the reading.
use Rattle.std.specs.Prelude.{ℕ, false, not, nat_le, nat_lt, List, [], ◌∷◌, length, codes, None, Result, Ok}
use Rattle.std.specs.Option.{ok_or}
use Rattle.serde_json.specs.Data.{Data}
use Rattle.serde_json.specs.Find.{get, as_bool}
use Rattle.reading.specs.Json.{json_of}
use Rattle.reading.specs.Lists.{list_of}
use Rattle.reading.specs.Steps.{◌>>=◌, check}
use Rattle.reading.specs.Values.{needed, or_value, list, text, opened}
use Rattle.farm_history.specs.declared.queues.Limits.{Limits}
use Rattle.farm_history.specs.Limits.{most_waiting, most_dirty}
use Rattle.farm_config.specs.Configs.{MapEntry, Config, map_has, map_place, greatest_limits}
use Rattle.farm_config.specs.Limits.{most_maps, most_zoom, most_files, most_workers}
use Rattle.farm_config.specs.Kinds.{a_map_name, number_within, a_tile_size, an_address}
use Rattle.farm_config.specs.declared.config.RestyleEntry.{RestyleEntry}
use Rattle.farm_config.specs.declared.fault.ConfigFault.{ConfigFault}
use Rattle.farm_config.specs.declared.fault.ConfigFault.TheVariants.{NotJson, Shape, Range, Double}

-- a map at its place; there is none after 16, and an earlier map of its name is Double, after its
-- keys
unfoldable pub map_entry : ℕ → List MapEntry → Data → Result MapEntry ConfigFault
map_entry place before d = do
  u ← check (nat_lt place most_maps) (Range 1)
  u ← opened (Shape 1) (Shape 1)
      (codes "name" ∷ codes "style" ∷ codes "tile" ∷ codes "maxzoom" ∷ []) d
  name ← needed (Shape 1) (a_map_name 1) (get (codes "name") d)
  style ← needed (Shape 1) (text (Shape 1)) (get (codes "style") d)
  tile ← needed (Shape 1) (a_tile_size 1) (get (codes "tile") d)
  max_zoom ← or_value most_zoom (number_within 1 0 most_zoom) (get (codes "maxzoom") d)
  u ← check (not (map_has name before)) (Double place)
  Ok (record { name = name; style = style; tile = tile; max_zoom = max_zoom })

-- the maps, of which there is at least one
unfoldable pub maps_of : Data → Result (List MapEntry) ConfigFault
maps_of d = do
  items ← list (Shape 1) d
  maps ← list_of (λ before e. map_entry (length before) before e) items
  u ← check (nat_le 1 (length maps)) (Range 1)
  Ok maps

-- the name of a file of a list, of which there are at most 256
unfoldable pub file_after : ℕ → List (List ℕ) → Data → Result (List ℕ) ConfigFault
file_after key before d = do
  u ← check (nat_lt (length before) most_files) (Range key)
  text (Shape key) d

-- the names of files
unfoldable pub files_of : ℕ → Data → Result (List (List ℕ)) ConfigFault
files_of key d = list (Shape key) d >>= λ items. list_of (file_after key) items

-- the limits of the queues, each the greatest where it is absent
unfoldable pub limits_of : Data → Result Limits ConfigFault
limits_of d = do
  u ← opened (Shape 6) (Shape 6)
      (codes "prio" ∷ codes "request" ∷ codes "low" ∷ codes "dirty" ∷ codes "bulk" ∷ []) d
  prio ← or_value most_waiting (number_within 6 1 most_waiting) (get (codes "prio") d)
  request ← or_value most_waiting (number_within 6 1 most_waiting) (get (codes "request") d)
  low ← or_value most_waiting (number_within 6 1 most_waiting) (get (codes "low") d)
  dirty ← or_value most_dirty (number_within 6 1 most_dirty) (get (codes "dirty") d)
  bulk ← or_value most_waiting (number_within 6 1 most_waiting) (get (codes "bulk") d)
  Ok (record { prio = prio; request = request; low = low; dirty = dirty; bulk = bulk })

-- a restyle of one of the maps, which it names; there are at most 256
unfoldable pub restyle_after : List MapEntry → List RestyleEntry → Data
    → Result RestyleEntry ConfigFault
restyle_after maps before d = do
  u ← check (nat_lt (length before) most_files) (Range 10)
  u ← opened (Shape 10) (Shape 10) (codes "map" ∷ codes "style" ∷ []) d
  name ← needed (Shape 10) (text (Shape 10)) (get (codes "map") d)
  place ← ok_or (map_place name maps) (Shape 10)
  style ← needed (Shape 10) (text (Shape 10)) (get (codes "style") d)
  Ok (record { map = place; style = style })

-- the restyles
unfoldable pub restyles_of : List MapEntry → Data → Result (List RestyleEntry) ConfigFault
restyles_of maps d = list (Shape 10) d >>= λ items. list_of (restyle_after maps) items

-- a configuration: its keys in the order of their numbers, 1 to 11; the object itself has the
-- number 0
unfoldable pub config_of : Data → Result Config ConfigFault
config_of d = do
  u ← opened (Shape 0) (Shape 0) (codes "maps" ∷ codes "data" ∷ codes "updates" ∷ codes "expiries"
      ∷ codes "workers" ∷ codes "limits" ∷ codes "renderd" ∷ codes "tiles" ∷ codes "control"
      ∷ codes "restyles" ∷ codes "resume" ∷ []) d
  maps ← needed (Shape 1) maps_of (get (codes "maps") d)
  dataset ← needed (Shape 2) (text (Shape 2)) (get (codes "data") d)
  updates ← or_value [] (files_of 3) (get (codes "updates") d)
  expiries ← or_value [] (files_of 4) (get (codes "expiries") d)
  workers ← or_value 2 (number_within 5 1 most_workers) (get (codes "workers") d)
  limits ← or_value greatest_limits limits_of (get (codes "limits") d)
  renderd ← or_value None (an_address 7) (get (codes "renderd") d)
  tiles ← or_value None (an_address 8) (get (codes "tiles") d)
  control ← or_value None (an_address 9) (get (codes "control") d)
  restyles ← or_value [] (restyles_of maps) (get (codes "restyles") d)
  resume ← or_value false (λ e. ok_or (as_bool e) (Shape 11)) (get (codes "resume") d)
  Ok (record {
    maps = maps;
    dataset = dataset;
    updates = updates;
    expiries = expiries;
    workers = workers;
    limits = limits;
    renderd = renderd;
    tiles = tiles;
    control = control;
    restyles = restyles;
    resume = resume;
  })

-- what the bytes of a configuration say
unfoldable pub config_in : List ℕ → Result Config ConfigFault
config_in bytes = ok_or (json_of bytes) NotJson >>= config_of
