-- Data and their changes: what a layer is after a change, and which changes are refused.
use Rattle.std.specs.Prelude.{ℕ, ◌≤◌, ◌+◌, ◌++◌, Bool, ◌&&◌, not, IsTrue, nat_le, nat_lt, nat_eq, if◌then◌else◌, List, [], ◌∷◌, length, map, filter, find, All, Option, Some, None, Result, Ok, Err, option_map}
use Rattle.std.specs.List.{list_any, IsDistinct}
use Rattle.std.specs.Str.{bytes_eq}
use Rattle.farm_base.specs.declared.faults.ApplyFault.{ApplyFault}
use Rattle.farm_base.specs.declared.faults.ApplyFault.TheVariants.{NoLayer, NoFeature, TooMany}
use Rattle.plain_shapes.specs.Limits.{most_name_bytes, most_data_layers, most_features}
use Rattle.plain_shapes.specs.Features.{Feature, Layer}

-- a change of one layer: the ids to be removed, and then the features to be put
pub record Change : Type 0 where
  pub layer : List ℕ
  pub remove : List ℕ
  pub put : List Feature

-- ---- what data and updates keep

-- a name of a layer has 1 to 64 bytes
abbrev pub is_name : List ℕ → Bool
is_name name = nat_le 1 (length name) && nat_le (length name) most_name_bytes

-- the ids of features, in their order
abbrev pub ids_of : List Feature → List ℕ
ids_of features = map (λ f. f.id) features

-- the names of layers, in their order
abbrev pub names_of : List Layer → List (List ℕ)
names_of layers = map (λ l. l.name) layers

-- a layer has at most 1,000,000 features, no two of one id
pub record IsLayer (l : Layer) : Type 0 where
  pub named : IsTrue (is_name l.name)
  pub few : length l.features ≤ most_features
  pub distinct : IsDistinct nat_eq (ids_of l.features)

-- data are at most 64 layers, no two of one name
pub record IsDataset (layers : List Layer) : Type 0 where
  pub few : length layers ≤ most_data_layers
  pub each : All IsLayer layers
  pub distinct : IsDistinct bytes_eq (names_of layers)

-- a change names a layer and puts at most 1,000,000 features
pub record IsChange (c : Change) : Type 0 where
  pub named : IsTrue (is_name c.layer)
  pub few : length c.put ≤ most_features

-- an update has at most 1,000,000 changes
pub record IsUpdate (changes : List Change) : Type 0 where
  pub few : length changes ≤ most_features
  pub each : All IsChange changes

-- ---- a layer after one change

-- the id is among the ids
abbrev pub has_id : List ℕ → ℕ → Bool
has_id ids id = list_any (nat_eq id) ids

-- the old features without the removed ids
abbrev pub without_ids : List ℕ → List Feature → List Feature
without_ids removed features = filter (λ f. not (has_id removed f.id)) features

-- the last of the puts of the id, or the other feature where none names it
abbrev pub last_put : List Feature → ℕ → Feature → Feature
last_put [] id other = other
last_put (f ∷ later) id other = if nat_eq f.id id then last_put later id f
    else last_put later id other

-- each feature that a put names is replaced in place by the last put of that id
abbrev pub puts_in_place : List Feature → List Feature → List Feature
puts_in_place puts features = map (λ f. last_put puts f.id f) features

-- the last puts of the ids that are not held, in the order of their first puts
abbrev pub put_features : List ℕ → List Feature → List Feature
put_features held [] = []
put_features held (f ∷ later) = if has_id held f.id then put_features held later
    else last_put later f.id f ∷ put_features (f.id ∷ held) later

-- the features with the puts: known ids are replaced in place, new ones go last
abbrev pub with_puts : List Feature → List Feature → List Feature
with_puts puts features = puts_in_place puts features ++ put_features (ids_of features) puts

-- the features of a layer after a change: first the removals, then the puts
abbrev pub with_change : Change → List Feature → List Feature
with_change c features = with_puts c.put (without_ids c.remove features)

-- ---- the faults of a change, in order

-- the first removal that finds nothing among the ids held: absent from the start, or removed before
abbrev pub first_missing : List ℕ → List ℕ → Option ℕ
first_missing held [] = None
first_missing held (id ∷ later) =
    if has_id held id then first_missing (filter (λ k. not (nat_eq id k)) held) later else Some id

-- a layer of more than 1,000,000 features: some put of a new id has passed the limit
abbrev pub is_too_many : List Feature → Bool
is_too_many features = nat_lt most_features (length features)

-- the fault of the removals comes before that of the puts
abbrev pub removal_or_put : ℕ → Option ℕ → Bool → Option ApplyFault
removal_or_put place (Some id) passes = Some (NoFeature place id)
removal_or_put place None passes = if passes then Some (TooMany place) else None

-- the fault of the change, which stands at this place of its update, over the features of its layer
abbrev pub features_fault : ℕ → Change → List Feature → Option ApplyFault
features_fault place c features = removal_or_put place (first_missing (ids_of features) c.remove)
    (is_too_many (with_change c features))

-- the layer of a name
abbrev pub layer_named : List Layer → List ℕ → Option Layer
layer_named layers name = find (λ l. bytes_eq l.name name) layers

-- the features of the layer of a name
abbrev pub features_named : List Layer → List ℕ → Option (List Feature)
features_named layers name = option_map (λ l. l.features) (layer_named layers name)

-- a layer that is not there is the fault before all others; else it is that of the layer's features
abbrev pub fault_at : ℕ → Change → Option (List Feature) → Option ApplyFault
fault_at place c None = Some (NoLayer place)
fault_at place c (Some features) = features_fault place c features

-- the fault of the change at this place of its update
abbrev pub change_fault : ℕ → Change → List Layer → Option ApplyFault
change_fault place c layers = fault_at place c (features_named layers c.layer)

-- ---- data after an update

-- the layer after a change of its features
abbrev pub changed_layer : Change → Layer → Layer
changed_layer c l = record l { features = with_change c l.features }

-- the layers after a change of the one that it names; the others stay
abbrev pub layers_after : Change → List Layer → List Layer
layers_after c [] = []
layers_after c (l ∷ layers) = if bytes_eq l.name c.layer then changed_layer c l ∷ layers
    else l ∷ layers_after c layers

-- go on with data that stand, or stop at a fault
abbrev pub unless_refused : {A : Type 0} → Option ApplyFault → Result A ApplyFault
    → Result A ApplyFault
unless_refused (Some fault) done = Err fault
unless_refused None done = done

-- the data after the changes in order, the first of which stands at this place of its update; or
-- the first fault
unfoldable pub changed_from : ℕ → List Change → List Layer → Result (List Layer) ApplyFault
changed_from place [] layers = Ok layers
changed_from place (c ∷ later) layers = unless_refused (change_fault place c layers)
    (changed_from (place + 1) later (layers_after c layers))

-- the data after an update, or its first fault
abbrev pub update_result : List Change → List Layer → Result (List Layer) ApplyFault
update_result changes layers = changed_from 0 changes layers
