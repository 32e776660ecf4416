-- What is gathered of an object's members, one after another, and what it comes to.
use Rattle.std.proofs.Common.{◌≡◌, ℕ, ◌≤◌, ◌<◌, Bool, true, false, List, [], ◌∷◌, ◌++◌, length, length-append, Option, Some, Result, Ok, refl, sym, subst, arith}
use Rattle.std.specs.Prelude.{codes, nat_le, nat_lt}
use Rattle.std.specs.Ordering.{nat_cmp, match_ordering}
use Rattle.std.specs.declared.cmp.Ordering.{Ordering}
use Rattle.std.specs.declared.cmp.Ordering.TheVariants.{Less, Equal, Greater}
use Rattle.std.specs.Cmp.Lexicographic.{slice_cmp}
use Rattle.std.proofs.lemmas.Bool.{and_parts, le-leb}
use Rattle.std.proofs.lemmas.Bool.Decides.{nat_tests}
use Rattle.serde_json.specs.Data.{Data, string, array, Items, Members, no_members, member, put, object}
use Rattle.serde_json.specs.Events.{items_len}
use Rattle.serde_json.specs.Find.{get_member}
use Rattle.serde_json.proofs.Views.{get_member-put, get_member-put_other}
use Rattle.plain_shapes.specs.Features.{Feature, Layer}
use Rattle.plain_shapes.specs.Data.{is_name}
use Rattle.reading.specs.Json.{json_of}
use Rattle.reading.specs.Lists.{list_of}
use Rattle.reading.specs.Values.{is_one_of, members_known, opened}
use Rattle.reading.proofs.Steps.{each_more}
use Rattle.pulled_json.proofs.Turns.{as_many}
use Rattle.geo_json.specs.Coordinates.{units_named}
use Rattle.geo_json.specs.DataTexts.{layer_said, layers_of, dataset_in, has_layer, is_read}
use Rattle.geo_json.specs.FeatureTexts.{new_feature_after, is_new}
use Rattle.geo_json.specs.Openings.{name_of}
use Rattle.geo_json.specs.inner.Keys.{layer_keys, data_keys}
use Rattle.geo_json.specs.inner.Gathered.{HasName, HasList, HasUnits, AreNew, AreRead, HasLayerParts, HasDataParts}
use Rattle.geo_json.specs.declared.faults.DataFault.{DataFault}
use Rattle.geo_json.specs.declared.faults.DataFault.TheVariants.{Shape}
use Rattle.geo_json.specs.declared.coordinates.Units.{Units}
use Rattle.geo_json.specs.declared.coordinates.Units.TheVariants.{Centimetres}

-- ---- keys

known_put_at : (o : Ordering) (names : List (List ℕ)) (k l : List ℕ) (d e : Data) (ms : Members) → is_one_of names k ≡ true → is_one_of names l ≡ true → members_known names ms ≡ true
    → members_known names (put k d ms) ≡ true → members_known names (match_ordering o (member k d (member l e ms)) (member l d ms) (member l e (put k d ms))) ≡ true
known_put_at Less names k l d e ms one here known later = rw (one, here, known) refl
known_put_at Equal names k l d e ms one here known later = rw (here, known) refl
known_put_at Greater names k l d e ms one here known later = rw (here, later) refl

-- a key more that may be there
pub known_put : (names : List (List ℕ)) (k : List ℕ) (d : Data) (ms : Members) → is_one_of names k ≡ true → members_known names ms ≡ true → members_known names (put k d ms) ≡ true
known_put names k d no_members one known = rw one refl
known_put names k d (member l e ms) one known =
    let both = and_parts (is_one_of names l) (members_known names ms) known in
    known_put_at (slice_cmp nat_cmp k l) names k l d e ms one both.0 both.1 (known_put names k d ms one both.1)

-- what stands at a key, after the value at it was put
pub put_here : (P : Option Data → Type 0) (k : List ℕ) (d : Data) (ms : Members) → P (Some d) → P (get_member k (put k d ms))
put_here P k d ms here = subst P (sym (get_member-put k d ms)) here

-- what stands at another key stays
pub put_there : (P : Option Data → Type 0) (q k : List ℕ) (d : Data) (ms : Members) → (q ≡ k → ⊥) → P (get_member q ms) → P (get_member q (put k d ms))
put_there P q k d ms other there = subst P (sym (get_member-put_other q k d ms other)) there

-- ---- a layer

pub layer_named : (units : Units) (part : ℕ) (name : Option (List ℕ)) (features : Option (List Feature)) (n : List ℕ) (ms : Members) → is_name n ≡ true
    → HasLayerParts units part name features ms → HasLayerParts units part (Some n) features (put (codes "name") (string n) ms)
layer_named units part name features n ms fits parts = (
  known_put layer_keys (codes "name") (string n) ms refl parts.0,
  put_here (HasName (Some n)) (codes "name") (string n) ms (refl, fits),
  put_there (HasList (new_feature_after units part) AreNew features) (codes "features") (codes "name") (string n) ms (λ e. cc) parts.2,
)

pub layer_filled : (units : Units) (part : ℕ) (name : Option (List ℕ)) (features : Option (List Feature)) (fs : List Feature) (ds : Items) (ms : Members)
    → list_of (new_feature_after units part) ds ≡ Ok fs → AreNew fs
    → HasLayerParts units part name features ms → HasLayerParts units part name (Some fs) (put (codes "features") (array ds) ms)
layer_filled units part name features fs ds ms read new parts = (
  known_put layer_keys (codes "features") (array ds) ms refl parts.0,
  put_there (HasName name) (codes "name") (codes "features") (array ds) ms (λ e. cc) parts.1,
  put_here (HasList (new_feature_after units part) AreNew (Some fs)) (codes "features") (array ds) ms (ds, refl, read, new),
)

-- a feature more
pub new_more : (before : List Feature) (f : Feature) → length before < 1000000 → AreNew before → is_new before f ≡ true → AreNew (before ++ f ∷ [])
new_more before f room new fresh = (omega (arith, length-append before (f ∷ [])), each_more is_new before (before ++ f ∷ []) f refl new.1 fresh)

pub few_items : {A : Type 0} (read : List A → Data → Result A DataFault) (xs : List A) (ds : Items) → list_of read ds ≡ Ok xs → length xs ≤ 1000000 → nat_le (items_len ds) 1000000 ≡ true
few_items read xs ds is few = let many = as_many read [] xs ds is in grind (arith, nat_tests)

-- the parts are a layer
layer_gathered : (units : Units) (part : ℕ) (before : List Layer) (n : List ℕ) (fs : List Feature) (ms : Members) → part < 64 → has_layer before n ≡ false
    → HasLayerParts units part (Some n) (Some fs) ms → layer_said units part before (object ms) ≡ Ok (record { name = n; features = fs })
unfolding layer_said opened name_of
layer_gathered units part before n fs ms place new parts =
    let room : nat_lt part 64 ≡ true = grind (arith, nat_tests) in
    let few = few_items (new_feature_after units part) fs parts.2.0 parts.2.2 parts.2.3.0 in
    rw (room, parts.0, parts.1.0, parts.1.1, parts.2.1, new, few, parts.2.2) refl

-- and it goes on the layers before
pub layer_more : (units : Units) (before : List Layer) (name : Option (List ℕ)) (features : Option (List Feature)) (n : List ℕ) (fs : List Feature) (ms : Members) → length before < 64
    → name ≡ Some n → features ≡ Some fs → has_layer before n ≡ false → HasLayerParts units (length before) name features ms → AreRead before
    → (layer_said units (length before) before (object ms) ≡ Ok (record { name = n; features = fs })) × AreRead (before ++ (record { name = n; features = fs }) ∷ [])
layer_more units before name features n fs ms place named filled new gathered read =
    let parts : HasLayerParts units (length before) (Some n) (Some fs) ms = rw (named, filled) at gathered in
    let room : nat_lt (length before) 64 ≡ true = grind (arith, nat_tests) in
    let few : nat_le (length fs) 1000000 ≡ true = le-leb (length fs) 1000000 parts.2.3.0 in
    let l : Layer = record { name = n; features = fs } in (
      layer_gathered units (length before) before n fs ms place new parts,
      each_more is_read before (before ++ l ∷ []) l refl read (rw (room, new, parts.1.1, few, parts.2.3.1) refl),
    )

-- ---- data

pub data_told : (units : Units) (told : Bool) (layers : Option (List Layer)) (name : List ℕ) (ms : Members) → units_named (Shape 0 0) name ≡ Ok units
    → HasDataParts units told layers ms → HasDataParts units true layers (put (codes "units") (string name) ms)
data_told units told layers name ms named parts = (
  known_put data_keys (codes "units") (string name) ms refl parts.0,
  put_here (HasUnits units true) (codes "units") (string name) ms (name, refl, named),
  put_there (HasList (λ before d. layer_said units (length before) before d) AreRead layers) (codes "layers") (codes "units") (string name) ms (λ e. cc) parts.2,
)

pub data_filled : (units : Units) (told : Bool) (layers : Option (List Layer)) (ls : List Layer) (ds : Items) (ms : Members)
    → list_of (λ before d. layer_said units (length before) before d) ds ≡ Ok ls → AreRead ls
    → HasDataParts units told layers ms → HasDataParts units told (Some ls) (put (codes "layers") (array ds) ms)
data_filled units told layers ls ds ms read all parts = (
  known_put data_keys (codes "layers") (array ds) ms refl parts.0,
  put_there (HasUnits units told) (codes "units") (codes "layers") (array ds) ms (λ e. cc) parts.1,
  put_here (HasList (λ before d. layer_said units (length before) before d) AreRead (Some ls)) (codes "layers") (array ds) ms (ds, refl, read, all),
)

-- the parts are the layers of data; units that are not told are centimetres
pub data_gathered : (units : Units) (told : Bool) (ls : List Layer) (ms : Members) → (told ≡ false → units ≡ Centimetres) → HasDataParts units told (Some ls) ms → layers_of (object ms) ≡ Ok ls
unfolding layers_of opened
data_gathered units false ls ms plain parts = rw (parts.0, parts.1, parts.2.1, ← plain refl, parts.2.2) refl
data_gathered units true ls ms plain parts = rw (parts.0, parts.1.1, parts.1.2, parts.2.1, parts.2.2) refl

pub text_gathered : (bytes : List ℕ) (units : Units) (told : Bool) (layers : Option (List Layer)) (ls : List Layer) (ms : Members) → json_of bytes ≡ Some (object ms) → layers ≡ Some ls
    → (told ≡ false → units ≡ Centimetres) → HasDataParts units told layers ms → (dataset_in bytes ≡ Ok ls) × AreRead ls
unfolding dataset_in
text_gathered bytes units told layers ls ms is all plain parts =
    let whole : HasDataParts units told (Some ls) ms = rw all at parts in
    (rw is (data_gathered units told ls ms plain whole), whole.2.3)
