-- Each fault that a configuration may be refused for has a text.
use Rattle.std.specs.Prelude.{ℕ, false, not, nat_le, nat_lt, List, [], length, codes, None, is_some, Result, IsTrue, refl, Ok, Err}
use Rattle.serde_json.specs.Data.{Data}
use Rattle.serde_json.specs.Find.{get, as_str, as_array, as_bool}
use Rattle.reading.specs.Json.{json_of}
use Rattle.reading.specs.Steps.{◌>>=◌}
use Rattle.reading.specs.Values.{text}
use Rattle.farm_config.specs.Addresses.{is_address}
use Rattle.farm_config.specs.Configs.{MapEntry, map_has, map_place, greatest_limits}
use Rattle.plain_world.specs.World.{is_tile_size}
use Rattle.tile_paths.specs.Paths.{is_map_name}
use Rattle.farm_history.specs.Limits.{most_waiting, most_dirty}
use Rattle.farm_config.specs.Limits.{most_maps, most_zoom, most_files, most_workers}
use Rattle.farm_config.specs.Kinds.{a_map_name, number_within, a_tile_size, an_address}
use Rattle.farm_config.specs.Tables.{map_entry, maps_of, file_after, files_of, limits_of, restyle_after, restyles_of, config_of, config_in}
use Rattle.farm_config.specs.declared.config.RestyleEntry.{RestyleEntry}
use Rattle.farm_config.specs.inner.Keys.{map_keys, limit_keys, restyle_keys, config_keys}
use Rattle.farm_config.specs.inner.Kinds.{a_file, a_truth}
use Rattle.farm_config.specs.declared.fault.ConfigFault.{ConfigFault}
use Rattle.farm_config.specs.declared.fault.ConfigFault.TheVariants.{NotJson, Shape, Range, Double}
use Rattle.exit_status.specs.ConfigFaults.{config_text}
use Rattle.exit_status.specs.Told.{ConfigsAreTold}
use Rattle.exit_status.proofs.Steps.{OnFault, of_fault, step, either, checks, has, needs, may, opens, wholes, lists}

abbrev HasText : ConfigFault → Type 0
HasText e = IsTrue (is_some (config_text e))

abbrev Told : {A : Type 0} → Result A ConfigFault → Type 0
Told r = OnFault HasText r

-- ---- values

file_told : (key : ℕ) (d : Data) → Told (a_file key d)
file_told key d = has HasText (as_str d) (Shape key) refl

map_name_told : (key : ℕ) (d : Data) → Told (a_map_name key d)
unfolding a_map_name
map_name_told key d = step HasText _ _ (has HasText (as_str d) (Shape key) refl) (λ s. either HasText (is_map_name s) (Ok s) (Err (Shape key)) tt refl)

number_told : (key low high : ℕ) (d : Data) → Told (number_within key low high d)
unfolding number_within
number_told key low high d = wholes HasText (Shape key) (Range key) low high d refl refl

size_told : (key : ℕ) (d : Data) → Told (a_tile_size key d)
unfolding a_tile_size
size_told key d = step HasText _ _ (wholes HasText (Shape key) (Range key) 16 512 d refl refl) (λ n. either HasText (is_tile_size n) (Ok n) (Err (Range key)) tt refl)

address_told : (key : ℕ) (d : Data) → Told (an_address key d)
unfolding an_address
address_told key d = step HasText _ _ (has HasText (as_str d) (Shape key) refl) (λ s. either HasText (is_address s) _ (Err (Shape key)) tt refl)

truth_told : (key : ℕ) (d : Data) → Told (a_truth key d)
truth_told key d = has HasText (as_bool d) (Shape key) refl

-- ---- objects

map_told : (place : ℕ) (before : List MapEntry) (d : Data) → Told (map_entry place before d)
unfolding map_entry
map_told place before d =
    step HasText _ _ (checks HasText (nat_lt place most_maps) (Range 1) refl) (λ t.
    step HasText _ _ (opens HasText (Shape 1) (Shape 1) map_keys d refl refl) (λ u.
    step HasText _ _ (needs HasText (Shape 1) (a_map_name 1) (get (codes "name") d) refl (map_name_told 1)) (λ name.
    step HasText _ _ (needs HasText (Shape 1) (a_file 1) (get (codes "style") d) refl (file_told 1)) (λ style.
    step HasText _ _ (needs HasText (Shape 1) (a_tile_size 1) (get (codes "tile") d) refl (size_told 1)) (λ tile.
    step HasText _ _ (may HasText most_zoom (number_within 1 0 most_zoom) (get (codes "maxzoom") d) (number_told 1 0 most_zoom)) (λ zoom.
    step HasText _ _ (checks HasText (not (map_has name before)) (Double place) refl) (λ v. tt)))))))

maps_told : (d : Data) → Told (maps_of d)
unfolding maps_of
maps_told d =
    step HasText _ _ (has HasText (as_array d) (Shape 1) refl) (λ items.
    step HasText _ _ (lists HasText (λ before e. map_entry (length before) before e) [] items (λ before e. map_told (length before) before e)) (λ maps.
    step HasText _ _ (checks HasText (nat_le 1 (length maps)) (Range 1) refl) (λ u. tt)))

file_after_told : (key : ℕ) (before : List (List ℕ)) (d : Data) → Told (file_after key before d)
unfolding file_after
file_after_told key before d = step HasText _ _ (checks HasText (nat_lt (length before) most_files) (Range key) refl) (λ u. file_told key d)

files_told : (key : ℕ) (d : Data) → Told (files_of key d)
unfolding files_of
files_told key d = step HasText _ _ (has HasText (as_array d) (Shape key) refl) (λ items. lists HasText (file_after key) [] items (file_after_told key))

limits_told : (d : Data) → Told (limits_of d)
unfolding limits_of
limits_told d =
    step HasText _ _ (opens HasText (Shape 6) (Shape 6) limit_keys d refl refl) (λ u.
    step HasText _ _ (may HasText most_waiting (number_within 6 1 most_waiting) (get (codes "prio") d) (number_told 6 1 most_waiting)) (λ prio.
    step HasText _ _ (may HasText most_waiting (number_within 6 1 most_waiting) (get (codes "request") d) (number_told 6 1 most_waiting)) (λ request.
    step HasText _ _ (may HasText most_waiting (number_within 6 1 most_waiting) (get (codes "low") d) (number_told 6 1 most_waiting)) (λ low.
    step HasText _ _ (may HasText most_dirty (number_within 6 1 most_dirty) (get (codes "dirty") d) (number_told 6 1 most_dirty)) (λ dirty.
    step HasText _ _ (may HasText most_waiting (number_within 6 1 most_waiting) (get (codes "bulk") d) (number_told 6 1 most_waiting)) (λ bulk. tt))))))

restyle_told : (maps : List MapEntry) (before : List RestyleEntry) (d : Data) → Told (restyle_after maps before d)
unfolding restyle_after
restyle_told maps before d =
    step HasText _ _ (checks HasText (nat_lt (length before) most_files) (Range 10) refl) (λ t.
    step HasText _ _ (opens HasText (Shape 10) (Shape 10) restyle_keys d refl refl) (λ u.
    step HasText _ _ (needs HasText (Shape 10) (text (Shape 10)) (get (codes "map") d) refl (λ e. has HasText (as_str e) (Shape 10) refl)) (λ name.
    step HasText _ _ (has HasText (map_place name maps) (Shape 10) refl) (λ place.
    step HasText _ _ (needs HasText (Shape 10) (a_file 10) (get (codes "style") d) refl (file_told 10)) (λ style. tt)))))

restyles_told : (maps : List MapEntry) (d : Data) → Told (restyles_of maps d)
unfolding restyles_of
restyles_told maps d = step HasText _ _ (has HasText (as_array d) (Shape 10) refl) (λ items. lists HasText (restyle_after maps) [] items (restyle_told maps))

config_told : (d : Data) → Told (config_of d)
unfolding config_of
config_told d =
    step HasText _ _ (opens HasText (Shape 0) (Shape 0) config_keys d refl refl) (λ u.
    step HasText _ _ (needs HasText (Shape 1) maps_of (get (codes "maps") d) refl maps_told) (λ maps.
    step HasText _ _ (needs HasText (Shape 2) (a_file 2) (get (codes "data") d) refl (file_told 2)) (λ dataset.
    step HasText _ _ (may HasText [] (files_of 3) (get (codes "updates") d) (files_told 3)) (λ updates.
    step HasText _ _ (may HasText [] (files_of 4) (get (codes "expiries") d) (files_told 4)) (λ expiries.
    step HasText _ _ (may HasText 2 (number_within 5 1 most_workers) (get (codes "workers") d) (number_told 5 1 most_workers)) (λ workers.
    step HasText _ _ (may HasText greatest_limits limits_of (get (codes "limits") d) limits_told) (λ limits.
    step HasText _ _ (may HasText None (an_address 7) (get (codes "renderd") d) (address_told 7)) (λ renderd.
    step HasText _ _ (may HasText None (an_address 8) (get (codes "tiles") d) (address_told 8)) (λ tiles.
    step HasText _ _ (may HasText None (an_address 9) (get (codes "control") d) (address_told 9)) (λ control.
    step HasText _ _ (may HasText [] (restyles_of maps) (get (codes "restyles") d) (restyles_told maps)) (λ restyles.
    step HasText _ _ (may HasText false (a_truth 11) (get (codes "resume") d) (truth_told 11)) (λ resume. tt))))))))))))

in_told : (bytes : List ℕ) → Told (config_in bytes)
unfolding config_in
in_told bytes = step HasText _ _ (has HasText (json_of bytes) NotJson refl) config_told

pub configs_are_told : ConfigsAreTold
configs_are_told bytes e q = of_fault HasText (config_in bytes) e (in_told bytes) q
