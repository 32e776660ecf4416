-- Configurations as plain records, and what their values keep.
use Rattle.std.specs.Prelude.{ℕ, ◌≤◌, ◌&&◌, Bool, not, nat_le, nat_lt, IsTrue, List, [], length, Option, position}
use Rattle.std.specs.List.{list_all, list_any}
use Rattle.std.specs.Str.{bytes_eq}
use Rattle.farm_base.specs.Earlier.{each_after}
use Rattle.plain_world.specs.World.{is_tile_size, IsTileSize}
use Rattle.tile_paths.specs.Paths.{is_map_name}
use Rattle.farm_history.specs.declared.queues.Limits.{Limits}
use Rattle.farm_history.specs.Limits.{most_waiting, most_dirty, AreLimits}
use Rattle.farm_config.specs.Limits.{most_maps, most_zoom, most_files, most_workers}
use Rattle.farm_config.specs.declared.config.RestyleEntry.{RestyleEntry}

-- a map: its name, the name of its style's file, the size of its tiles in pixels and its greatest
-- zoom
pub record MapEntry : Type 0 where
  pub name : List ℕ
  pub style : List ℕ
  pub tile : ℕ
  pub max_zoom : ℕ

-- a whole configuration
pub record Config : Type 0 where
  pub maps : List MapEntry
  pub dataset : List ℕ
  pub updates : List (List ℕ)
  pub expiries : List (List ℕ)
  pub workers : ℕ
  pub limits : Limits
  pub renderd : Option (List ℕ)
  pub tiles : Option (List ℕ)
  pub control : Option (List ℕ)
  pub restyles : List RestyleEntry
  pub resume : Bool

-- the greatest limits of the queues, which are also the defaults
abbrev pub greatest_limits : Limits
greatest_limits = record {
  prio = most_waiting;
  request = most_waiting;
  low = most_waiting;
  dirty = most_dirty;
  bulk = most_waiting;
}

-- a map of this name is among them
abbrev pub map_has : List ℕ → List MapEntry → Bool
map_has name maps = list_any (λ m. bytes_eq m.name name) maps

-- the place of the map of this name
unfoldable pub map_place : List ℕ → List MapEntry → Option ℕ
map_place name maps = position (λ m. bytes_eq m.name name) maps

-- a map keeps its ranges, and no earlier one has its name
abbrev pub map_fits : List MapEntry → MapEntry → Bool
map_fits before m = is_map_name m.name && is_tile_size m.tile && nat_le m.max_zoom most_zoom
    && not (map_has m.name before)

-- the restyle's map is one of so many
abbrev pub restyle_known : ℕ → RestyleEntry → Bool
restyle_known maps r = nat_lt r.map maps

-- what every map of a configuration keeps
pub record IsMapEntry (name : List ℕ) (tile max_zoom : ℕ) : Type 0 where
  pub name_fits : IsTrue (is_map_name name)
  pub tile_fits : IsTileSize tile
  pub zoom_fits : max_zoom ≤ most_zoom

-- what every configuration keeps: 1 to 16 maps that keep their ranges and have distinct names, 1 to
-- 16 workers, limits within theirs, at most 256 updates, expiry lists and restyles, and each
-- restyle of a map that is there
pub record IsConfig (maps : List MapEntry) (updates expiries : List (List ℕ)) (workers : ℕ)
    (limits : Limits) (restyles : List RestyleEntry) : Type 0 where
  pub some_maps : 1 ≤ length maps
  pub few_maps : length maps ≤ most_maps
  pub maps_fit : IsTrue (each_after map_fits [] maps)
  pub few_updates : length updates ≤ most_files
  pub few_expiries : length expiries ≤ most_files
  pub some_workers : 1 ≤ workers
  pub few_workers : workers ≤ most_workers
  pub limits_fit : AreLimits limits
  pub few_restyles : length restyles ≤ most_files
  pub restyles_known : IsTrue (list_all (restyle_known (length maps)) restyles)
