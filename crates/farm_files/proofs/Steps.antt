-- The files that a configuration names, step by step.
use Rattle.std.proofs.Common.{◌≡◌, ℕ, inl, List, refl, ap, subst}
use Rattle.std.specs.Prelude.{Result, Ok}
use Rattle.plain_world.specs.declared.world.Tile.{Tile}
use Rattle.plain_shapes.specs.Features.{Layer}
use Rattle.plain_shapes.specs.Data.{Change}
use Rattle.geo_json.specs.DataTexts.{dataset_in}
use Rattle.exit_status.specs.DataFaults.{data_text}
use Rattle.farm_config.specs.Configs.{MapEntry, Config}
use Rattle.farm_config.specs.declared.config.RestyleEntry.{RestyleEntry}
use Rattle.farm_plan.specs.Plans.{MapPlan, Restyle}
use Rattle.exit_status.specs.Ends.{FilesAt}
use Rattle.exit_status.specs.declared.stops.Stop.{Stop}
use Rattle.farm_files.specs.Course.{Course, made, ◌>>=◌, file, each}
use Rattle.farm_files.specs.inner.Follows.{Follows}
use Rattle.farm_files.proofs.Courses.{ended, follows_then, follows_stop}
use Rattle.farm_files.specs.Inputs.{FarmInputs}
use Rattle.farm_files.specs.Courses.{map_course, restyle_course, update_course, list_course, inputs_course, inputs_course_by}

-- ---- what is left of the course behind each step

abbrev pub inputs_with : Config → List MapPlan → List Restyle → List Layer → List (List Change) → List (List Tile) → FarmInputs
inputs_with config maps restyles layers updates lists = record {
  plan = record { maps = maps; dataset = layers; updates = updates; workers = config.workers; limits = config.limits; restyles = restyles };
  lists = lists;
}

abbrev pub with_updates : Config → List MapPlan → List Restyle → List Layer → List (List Change) → Course FarmInputs
with_updates config maps restyles layers updates = each list_course config.expiries >>= λ lists. made (inputs_with config maps restyles layers updates lists)

abbrev pub with_layers : Config → List MapPlan → List Restyle → List Layer → Course FarmInputs
with_layers config maps restyles layers = each update_course config.updates >>= with_updates config maps restyles layers

abbrev pub with_restyles : Config → List MapPlan → List Restyle → Course FarmInputs
with_restyles config maps restyles = file dataset_in data_text config.dataset >>= with_layers config maps restyles

abbrev pub with_maps : Config → List MapPlan → Course FarmInputs
with_maps config maps = each restyle_course config.restyles >>= with_restyles config maps

-- ---- each step that was made, and then the rest

pub maps_then : (config : Config) (items : List MapEntry) (maps : List MapPlan) (old middle new : FilesAt) (result : Result FarmInputs Stop) → items ≡ config.maps
    → Follows (each map_course items) old middle (Ok maps) → Follows (with_maps config maps) middle new result → Follows (inputs_course config) old new result
unfolding inputs_course_by
maps_then config items maps old middle new result is first next =
    follows_then (each map_course config.maps) (with_maps config) old middle new maps result
    (subst (λ (xs : List MapEntry). Follows (each map_course xs) old middle (Ok maps)) is first) next

pub restyles_then : (config : Config) (maps : List MapPlan) (items : List RestyleEntry) (restyles : List Restyle) (old middle new : FilesAt) (result : Result FarmInputs Stop) → items ≡ config.restyles
    → Follows (each restyle_course items) old middle (Ok restyles) → Follows (with_restyles config maps restyles) middle new result → Follows (with_maps config maps) old new result
restyles_then config maps items restyles old middle new result is first next =
    follows_then (each restyle_course config.restyles) (with_restyles config maps) old middle new restyles result
    (subst (λ (xs : List RestyleEntry). Follows (each restyle_course xs) old middle (Ok restyles)) is first) next

pub layers_then : (config : Config) (maps : List MapPlan) (restyles : List Restyle) (name : List ℕ) (layers : List Layer) (old middle new : FilesAt) (result : Result FarmInputs Stop) → name ≡ config.dataset
    → Follows (file dataset_in data_text name) old middle (Ok layers) → Follows (with_layers config maps restyles layers) middle new result → Follows (with_restyles config maps restyles) old new result
layers_then config maps restyles name layers old middle new result is first next =
    follows_then (file dataset_in data_text config.dataset) (with_layers config maps restyles) old middle new layers result
    (subst (λ (n : List ℕ). Follows (file dataset_in data_text n) old middle (Ok layers)) is first) next

pub updates_then : (config : Config) (maps : List MapPlan) (restyles : List Restyle) (layers : List Layer) (items : List (List ℕ)) (updates : List (List Change)) (old middle new : FilesAt) (result : Result FarmInputs Stop)
    → items ≡ config.updates → Follows (each update_course items) old middle (Ok updates) → Follows (with_updates config maps restyles layers updates) middle new result
    → Follows (with_layers config maps restyles layers) old new result
updates_then config maps restyles layers items updates old middle new result is first next =
    follows_then (each update_course config.updates) (with_updates config maps restyles layers) old middle new updates result
    (subst (λ (xs : List (List ℕ)). Follows (each update_course xs) old middle (Ok updates)) is first) next

pub lists_then : (config : Config) (maps : List MapPlan) (restyles : List Restyle) (layers : List Layer) (updates : List (List Change)) (items : List (List ℕ)) (lists : List (List Tile)) (inputs : FarmInputs)
    (old new : FilesAt) → items ≡ config.expiries → Follows (each list_course items) old new (Ok lists) → inputs ≡ inputs_with config maps restyles layers updates lists
    → Follows (with_updates config maps restyles layers updates) old new (Ok inputs)
lists_then config maps restyles layers updates items lists inputs old new is first has =
    follows_then (each list_course config.expiries) (λ lists. made (inputs_with config maps restyles layers updates lists)) old new new lists (Ok inputs)
    (subst (λ (xs : List (List ℕ)). Follows (each list_course xs) old new (Ok lists)) is first) (inl (ap Ok has), refl)

-- ---- each step that came to an early end

pub maps_stop : (config : Config) (items : List MapEntry) (old new : FilesAt) (s : Stop) → items ≡ config.maps → Follows (each map_course items) old new (ended {A = List MapPlan} s)
    → Follows (inputs_course config) old new (ended {A = FarmInputs} s)
unfolding inputs_course_by
maps_stop config items old new s is first =
    follows_stop (List MapPlan) FarmInputs (each map_course config.maps) (with_maps config) old new s
    (subst (λ (xs : List MapEntry). Follows (each map_course xs) old new (ended {A = List MapPlan} s)) is first)

pub restyles_stop : (config : Config) (maps : List MapPlan) (items : List RestyleEntry) (old new : FilesAt) (s : Stop) → items ≡ config.restyles → Follows (each restyle_course items) old new (ended {A = List Restyle} s)
    → Follows (with_maps config maps) old new (ended {A = FarmInputs} s)
restyles_stop config maps items old new s is first =
    follows_stop (List Restyle) FarmInputs (each restyle_course config.restyles) (with_restyles config maps) old new s
    (subst (λ (xs : List RestyleEntry). Follows (each restyle_course xs) old new (ended {A = List Restyle} s)) is first)

pub layers_stop : (config : Config) (maps : List MapPlan) (restyles : List Restyle) (name : List ℕ) (old new : FilesAt) (s : Stop) → name ≡ config.dataset → Follows (file dataset_in data_text name) old new (ended {A = List Layer} s)
    → Follows (with_restyles config maps restyles) old new (ended {A = FarmInputs} s)
layers_stop config maps restyles name old new s is first =
    follows_stop (List Layer) FarmInputs (file dataset_in data_text config.dataset) (with_layers config maps restyles) old new s
    (subst (λ (n : List ℕ). Follows (file dataset_in data_text n) old new (ended {A = List Layer} s)) is first)

pub updates_stop : (config : Config) (maps : List MapPlan) (restyles : List Restyle) (layers : List Layer) (items : List (List ℕ)) (old new : FilesAt) (s : Stop) → items ≡ config.updates
    → Follows (each update_course items) old new (ended {A = List (List Change)} s) → Follows (with_layers config maps restyles layers) old new (ended {A = FarmInputs} s)
updates_stop config maps restyles layers items old new s is first =
    follows_stop (List (List Change)) FarmInputs (each update_course config.updates) (with_updates config maps restyles layers) old new s
    (subst (λ (xs : List (List ℕ)). Follows (each update_course xs) old new (ended {A = List (List Change)} s)) is first)

pub lists_stop : (config : Config) (maps : List MapPlan) (restyles : List Restyle) (layers : List Layer) (updates : List (List Change)) (items : List (List ℕ)) (old new : FilesAt) (s : Stop) → items ≡ config.expiries
    → Follows (each list_course items) old new (ended {A = List (List Tile)} s) → Follows (with_updates config maps restyles layers updates) old new (ended {A = FarmInputs} s)
lists_stop config maps restyles layers updates items old new s is first =
    follows_stop (List (List Tile)) FarmInputs (each list_course config.expiries) (λ lists. made (inputs_with config maps restyles layers updates lists)) old new s
    (subst (λ (xs : List (List ℕ)). Follows (each list_course xs) old new (ended {A = List (List Tile)} s)) is first)
