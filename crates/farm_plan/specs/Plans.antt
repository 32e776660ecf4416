-- The plan of a farm: what it is started with, and which plans are valid.
use Rattle.std.specs.Prelude.{ℕ, ◌<◌, ◌≤◌, ◌≡◌, List, length, All, slice_get, position, Option, Some}
use Rattle.std.specs.Str.{bytes_eq}
use Rattle.plain_world.specs.World.{IsTileSize}
use Rattle.plain_shapes.specs.Features.{Layer}
use Rattle.plain_shapes.specs.Data.{Change}
use Rattle.plain_drawing.specs.Styles.{MapStyle, KeepsRanges}
use Rattle.tile_paths.specs.Paths.{IsName}
use Rattle.farm_history.specs.declared.queues.Limits.{Limits}
use Rattle.farm_history.specs.Limits.{IsFrom1, AreLimits}

-- a map: its name, its style, how many pixels its tiles have side by side, and its greatest zoom
pub record MapPlan : Type 0 where
  pub name : List ℕ
  pub style : MapStyle
  pub tile : ℕ
  pub max_zoom : ℕ

-- a style that a map may be given later
pub record Restyle : Type 0 where
  pub map : ℕ
  pub style : MapStyle

-- a plan: its maps, the data to begin with, the updates that may come, how many workers draw, how
-- many metatiles may wait in each queue, and the styles that may come
pub record FarmPlan : Type 0 where
  pub maps : List MapPlan
  pub dataset : List Layer
  pub updates : List (List Change)
  pub workers : ℕ
  pub limits : Limits
  pub restyles : List Restyle

-- the place of the map of a name; nothing exactly where the plan has none of that name
abbrev pub maps_in : FarmPlan → List ℕ → Option ℕ
maps_in plan name = position (λ m. bytes_eq m.name name) plan.maps

-- a map has a name of the bytes that may stand in a path, tiles of one of the six sizes, and zooms
-- to 18 at most
pub record IsMapPlan (m : MapPlan) : Type 0 where
  pub named : IsName m.name
  pub sized : IsTileSize m.tile
  pub zooms : m.max_zoom ≤ 18

-- no two maps have one name
abbrev pub HasNamesApart : List MapPlan → Type 0
HasNamesApart maps = (i j : ℕ) (a b : MapPlan) → slice_get maps i ≡ Some a
    → slice_get maps j ≡ Some b → a.name ≡ b.name → i ≡ j

-- a restyle names a map of the plan
abbrev pub NamesMap : List MapPlan → Restyle → Type 0
NamesMap maps r = r.map < length maps

-- a plan that a farm may be started with: 1 to 16 maps with names apart, 1 to 16 workers, its
-- limits, and at most 256 updates and styles that may come, each style of a map of the plan
pub record IsPlan (plan : FarmPlan) : Type 0 where
  pub count_maps : IsFrom1 (length plan.maps) 16
  pub each_map : All IsMapPlan plan.maps
  pub apart : HasNamesApart plan.maps
  pub count_workers : IsFrom1 plan.workers 16
  pub limited : AreLimits plan.limits
  pub few_updates : length plan.updates ≤ 256
  pub few_restyles : length plan.restyles ≤ 256
  pub each_restyle : All (NamesMap plan.maps) plan.restyles

-- every symbolizer of the map style keeps its ranges
abbrev pub IsRanged : MapStyle → Type 0
IsRanged style = All KeepsRanges style.styles

-- the symbolizers of all styles of the plan keep their ranges, those of the maps and those that may
-- come
pub record AreRanged (plan : FarmPlan) : Type 0 where
  pub maps : All (λ m. IsRanged m.style) plan.maps
  pub restyles : All (λ r. IsRanged r.style) plan.restyles
