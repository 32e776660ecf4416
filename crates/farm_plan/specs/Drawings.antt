-- What a plan means for the histories of its farm: the data after updates, what an update reaches,
-- the tiles and metatiles that are drawn, and their paths.
use Rattle.std.specs.Prelude.{ℕ, Bool, false, ◌||◌, List, [], ◌++◌, length, map, filter, fold, flat_map, slice_get, Option, Some, None, Result, Ok, Err, unwrap_or}
use Rattle.std.specs.List.{list_any}
use Rattle.farm_base.specs.declared.faults.ApplyFault.{ApplyFault}
use Rattle.plain_world.specs.declared.world.Tile.{Tile}
use Rattle.plain_world.specs.declared.world.Meta.{Meta}
use Rattle.plain_world.specs.World.{meta_square}
use Rattle.plain_shapes.specs.Features.{Feature, Layer}
use Rattle.plain_shapes.specs.Data.{Change, has_id, ids_of, features_named, update_result}
use Rattle.plain_shapes.specs.Reach.{feature_reaches}
use Rattle.plain_drawing.specs.Styles.{MapStyle}
use Rattle.plain_drawing.specs.Drawing as drawing
use Rattle.plain_drawing.specs.Metatiles.{tiles_of}
use Rattle.meta_container.specs.Container.{container_of}
use Rattle.tile_paths.specs.Paths.{path_of}
use Rattle.farm_history.specs.declared.keys.Key.{Key}
use Rattle.farm_history.specs.Plans.{Plan}
use Rattle.farm_plan.specs.Plans.{MapPlan, Restyle, FarmPlan}

-- ---- data

-- the changes of an update of the table; a number past the table changes nothing
abbrev pub update_of : FarmPlan → ℕ → List Change
update_of plan n = unwrap_or (slice_get plan.updates n) []

-- the new data; where the update has a fault, the old ones
abbrev pub kept_or : List Layer → Result (List Layer) ApplyFault → List Layer
kept_or old (Ok new) = new
kept_or old (Err fault) = old

-- the fault, if there is one
abbrev pub fault_in : Result (List Layer) ApplyFault → Option ApplyFault
fault_in (Ok new) = None
fault_in (Err fault) = Some fault

-- the data after one update of the table
abbrev pub data_step : FarmPlan → List Layer → ℕ → List Layer
data_step plan layers n = kept_or layers (update_result (update_of plan n) layers)

-- the data after the updates of these numbers, in order, from those that the plan begins with
unfoldable pub data_of : FarmPlan → List ℕ → List Layer
data_of plan numbers = fold (data_step plan) plan.dataset numbers

-- ---- what an update reaches

-- the features of the layer of a name, none where there is none
abbrev pub features_in : List Layer → List ℕ → List Feature
features_in layers name = unwrap_or (features_named layers name) []

-- the change removes or puts the id
abbrev pub names_id : Change → ℕ → Bool
names_id c id = has_id c.remove id || has_id (ids_of c.put) id

-- the features that a change names: the old ones of its layer whose ids it removes or puts, and all
-- that it puts
abbrev pub named_by : List Layer → Change → List Feature
named_by layers c = filter (λ f. names_id c f.id) (features_in layers c.layer) ++ c.put

-- the features that an update names over the data before it
abbrev pub named : List Layer → List Change → List Feature
named layers changes = flat_map (named_by layers) changes

-- some feature reaches the metatile's square, for tiles of so many pixels at the metatile's zoom
abbrev pub any_reaches : List Feature → ℕ → Meta → Bool
any_reaches features size m = list_any (λ f. feature_reaches f size m.z (meta_square m)) features

-- the same for the tiles of a map; without a map nothing is reached
abbrev pub any_reaches_map : List Feature → Option MapPlan → Meta → Bool
any_reaches_map features None m = false
any_reaches_map features (Some mp) m = any_reaches features mp.tile m

-- whether update number n, over the data before it, names a feature that reaches the key's metatile
-- square
unfoldable pub reaches_of : FarmPlan → List Layer → ℕ → Key → Bool
reaches_of plan layers n k =
    any_reaches_map (named layers (update_of plan n)) (slice_get plan.maps k.map) k.meta

-- ---- drawings

-- the style that comes, or the map's own where there is none
abbrev pub style_or : MapStyle → Option Restyle → MapStyle
style_or own None = own
style_or own (Some r) = r.style

-- the style of a map that was last given the style of that number, or still has its own
abbrev pub styled_as : FarmPlan → MapPlan → Option ℕ → MapStyle
styled_as plan mp None = mp.style
styled_as plan mp (Some n) = style_or mp.style (slice_get plan.restyles n)

-- a map's tile in the style of that number, which is the plain drawing; nothing without a map
abbrev pub tile_in : FarmPlan → Option MapPlan → Option ℕ → Tile → List Layer → List ℕ
tile_in plan None styled t layers = []
tile_in plan (Some mp) styled t layers =
    drawing.drawn_tile (styled_as plan mp styled) mp.tile t layers

-- a map's metatile in the style of that number: the container of its tiles' plain drawings; nothing
-- without a map
abbrev pub meta_in : FarmPlan → Option MapPlan → Option ℕ → Meta → List Layer → List ℕ
meta_in plan None styled m layers = []
meta_in plan (Some mp) styled m layers =
    container_of m (tiles_of (styled_as plan mp styled) mp.tile m layers)

-- the bytes that are stored of a key, in the style of that number over the data
abbrev pub container_bytes : FarmPlan → Key → Option ℕ → List Layer → List ℕ
container_bytes plan k styled layers = meta_in plan (slice_get plan.maps k.map) styled k.meta layers

-- the path of a map's metatile; nothing without a map
abbrev pub path_in : Option MapPlan → Meta → List ℕ
path_in None m = []
path_in (Some mp) m = path_of mp.name m

-- the path at which a key is stored
abbrev pub key_path : FarmPlan → Key → List ℕ
key_path plan k = path_in (slice_get plan.maps k.map) k.meta

-- ---- the plan of histories

-- what of the plan the histories of its farm depend on: each tile is drawn as the plain drawing of
-- its map's style over the data, an update has the first fault of its changes over the data, and it
-- reaches what a feature that it names reaches
unfoldable pub plan_of : FarmPlan → Plan
plan_of plan = record {
  max_zooms = map (λ m. m.max_zoom) plan.maps;
  limits = plan.limits;
  workers = plan.workers;
  updates = length plan.updates;
  restyles = map (λ r. r.map) plan.restyles;
  fault = λ numbers n. fault_in (update_result (update_of plan n) (data_of plan numbers));
  reaches = λ numbers n k. reaches_of plan (data_of plan numbers) n k;
  drawing =
      λ m styled t numbers. tile_in plan (slice_get plan.maps m) styled t (data_of plan numbers);
}
