-- What is gathered of the members of an object, key by key. Words of inner contracts.
use Rattle.std.specs.Prelude.{⊤, ◌≡◌, ℕ, ◌≤◌, Bool, true, false, List, [], length, codes, Option, Some, None, Result, Ok}
use Rattle.serde_json.specs.Data.{Data, string, array, Items, Members}
use Rattle.serde_json.specs.Find.{get_member}
use Rattle.farm_base.specs.Earlier.{each_after}
use Rattle.plain_shapes.specs.Features.{Feature, Layer}
use Rattle.plain_shapes.specs.Data.{is_name, Change}
use Rattle.plain_shapes.specs.Limits.{most_features}
use Rattle.reading.specs.Lists.{list_of}
use Rattle.reading.specs.Values.{members_known}
use Rattle.geo_json.specs.Coordinates.{units_named}
use Rattle.geo_json.specs.FeatureTexts.{id_of, feature_after, new_feature_after, is_new}
use Rattle.geo_json.specs.DataTexts.{layer_said, is_read}
use Rattle.geo_json.specs.UpdateTexts.{change_at}
use Rattle.geo_json.specs.UpdateTexts as update_texts
use Rattle.geo_json.specs.inner.Keys.{layer_keys, data_keys, change_keys, update_keys}
use Rattle.geo_json.specs.declared.faults.DataFault.{DataFault}
use Rattle.geo_json.specs.declared.faults.DataFault.TheVariants.{Shape}
use Rattle.geo_json.specs.declared.coordinates.Units.{Units}

-- at a key stands this name, or nothing
abbrev pub HasName : Option (List ℕ) → Option Data → Type 0
HasName None found = found ≡ None
HasName (Some name) found = (found ≡ Some (string name)) × (is_name name ≡ true)

-- at a key stands a list that is read as these items, of which something holds; or nothing
abbrev pub HasList : {A : Type 0} → (List A → Data → Result A DataFault) → (List A → Type 0)
    → Option (List A) → Option Data → Type 0
HasList read holds None found = found ≡ None
HasList read holds (Some xs) found =
    (ds : Items) × (found ≡ Some (array ds)) × (list_of read ds ≡ Ok xs) × holds xs

-- at a key stand these units, or nothing
abbrev pub HasUnits : Units → Bool → Option Data → Type 0
HasUnits units false found = found ≡ None
HasUnits units true found =
    (name : List ℕ) × (found ≡ Some (string name)) × (units_named (Shape 0 0) name ≡ Ok units)

-- features of a layer are few, and of distinct ids
abbrev pub AreNew : List Feature → Type 0
AreNew features = (length features ≤ most_features) × (each_after is_new [] features ≡ true)

-- layers of data are of distinct names, and each is read
abbrev pub AreRead : List Layer → Type 0
AreRead layers = each_after is_read [] layers ≡ true

-- the members of a layer so far
abbrev pub HasLayerParts : Units → ℕ → Option (List ℕ) → Option (List Feature) → Members → Type 0
HasLayerParts units part name features ms =
    (members_known layer_keys ms ≡ true) × HasName name (get_member (codes "name") ms)
    × HasList (new_feature_after units part) AreNew features (get_member (codes "features") ms)

-- the members of data so far
abbrev pub HasDataParts : Units → Bool → Option (List Layer) → Members → Type 0
HasDataParts units told layers ms =
    (members_known data_keys ms ≡ true) × HasUnits units told (get_member (codes "units") ms)
    × HasList (λ before d. layer_said units (length before) before d) AreRead layers
    (get_member (codes "layers") ms)

-- changes of an update are few and each is read
abbrev pub AreReadChanges : List Change → Type 0
AreReadChanges changes = each_after update_texts.is_read [] changes ≡ true

-- a list is not too long
abbrev pub AreFew : {A : Type 0} → List A → Type 0
AreFew xs = length xs ≤ most_features

-- any list
abbrev pub AreAny : {A : Type 0} → List A → Type 0
AreAny xs = ⊤

-- the members of a change so far
abbrev pub HasChangeParts : Units → ℕ → Option (List ℕ) → Option (List ℕ) → Option (List Feature)
    → Members → Type 0
HasChangeParts units part layer remove put ms =
    (members_known change_keys ms ≡ true) × HasName layer (get_member (codes "layer") ms)
    × HasList (λ before d. id_of (Shape part 0) d) AreAny remove (get_member (codes "remove") ms)
    × HasList (feature_after units part) AreFew put (get_member (codes "put") ms)

-- the members of an update so far
abbrev pub HasUpdateParts : Units → Bool → Option (List Change) → Members → Type 0
HasUpdateParts units told changes ms =
    (members_known update_keys ms ≡ true) × HasUnits units told (get_member (codes "units") ms)
    × HasList (λ before d. change_at units (length before) d) AreReadChanges changes
    (get_member (codes "changes") ms)
