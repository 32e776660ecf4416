-- What is gathered of an update's members, one after another, and what it comes to.
use Rattle.std.proofs.Common.{◌≡◌, ℕ, ◌≤◌, ◌<◌, Bool, true, false, List, [], ◌∷◌, ◌++◌, length, length-append, Option, Some, None, Ok, refl, ap, ◌∙◌, arith}
use Rattle.std.specs.Prelude.{codes, nat_le, nat_lt, unwrap_or}
use Rattle.std.proofs.lemmas.Bool.{le-leb}
use Rattle.std.proofs.lemmas.Bool.Decides.{nat_tests}
use Rattle.serde_json.specs.Data.{Data, string, array, Items, no_items, Members, put, object}
use Rattle.serde_json.specs.Find.{get_member}
use Rattle.plain_shapes.specs.Features.{Feature}
use Rattle.plain_shapes.specs.Data.{Change, is_name}
use Rattle.reading.specs.Json.{json_of}
use Rattle.reading.specs.Lists.{list_after, list_of}
use Rattle.reading.specs.Values.{opened, or_value, list}
use Rattle.reading.proofs.Steps.{each_more}
use Rattle.geo_json.specs.Coordinates.{units_named}
use Rattle.geo_json.specs.FeatureTexts.{feature_after, id_of}
use Rattle.geo_json.specs.Openings.{name_of}
use Rattle.geo_json.specs.UpdateTexts.{ids_in, change_at, changes_of, update_in}
use Rattle.geo_json.specs.UpdateTexts as update_texts
use Rattle.geo_json.specs.inner.Keys.{change_keys, update_keys}
use Rattle.geo_json.specs.inner.Gathered.{HasName, HasList, HasUnits, AreFew, AreAny, AreReadChanges, HasChangeParts, HasUpdateParts}
use Rattle.geo_json.specs.declared.faults.DataFault.TheVariants.{Shape}
use Rattle.geo_json.specs.declared.coordinates.Units.{Units}
use Rattle.geo_json.specs.declared.coordinates.Units.TheVariants.{Centimetres}
use Rattle.geo_json.proofs.Gathered.{known_put, put_here, put_there, few_items}

-- ---- a change

pub change_named : (units : Units) (part : ℕ) (layer : Option (List ℕ)) (remove : Option (List ℕ)) (given : Option (List Feature)) (n : List ℕ) (ms : Members) → is_name n ≡ true
    → HasChangeParts units part layer remove given ms → HasChangeParts units part (Some n) remove given (put (codes "layer") (string n) ms)
change_named units part layer remove given n ms fits parts = (
  known_put change_keys (codes "layer") (string n) ms refl parts.0,
  put_here (HasName (Some n)) (codes "layer") (string n) ms (refl, fits),
  put_there (HasList (λ before d. id_of (Shape part 0) d) AreAny remove) (codes "remove") (codes "layer") (string n) ms (λ e. cc) parts.2,
  put_there (HasList (feature_after units part) AreFew given) (codes "put") (codes "layer") (string n) ms (λ e. cc) parts.3,
)

pub change_removes : (units : Units) (part : ℕ) (layer : Option (List ℕ)) (remove : Option (List ℕ)) (given : Option (List Feature)) (ids : List ℕ) (ds : Items) (ms : Members)
    → list_of (λ before d. id_of (Shape part 0) d) ds ≡ Ok ids
    → HasChangeParts units part layer remove given ms → HasChangeParts units part layer (Some ids) given (put (codes "remove") (array ds) ms)
change_removes units part layer remove given ids ds ms read parts = (
  known_put change_keys (codes "remove") (array ds) ms refl parts.0,
  put_there (HasName layer) (codes "layer") (codes "remove") (array ds) ms (λ e. cc) parts.1,
  put_here (HasList (λ before d. id_of (Shape part 0) d) AreAny (Some ids)) (codes "remove") (array ds) ms (ds, refl, read, tt),
  put_there (HasList (feature_after units part) AreFew given) (codes "put") (codes "remove") (array ds) ms (λ e. cc) parts.3,
)

pub change_puts : (units : Units) (part : ℕ) (layer : Option (List ℕ)) (remove : Option (List ℕ)) (given : Option (List Feature)) (fs : List Feature) (ds : Items) (ms : Members)
    → list_of (feature_after units part) ds ≡ Ok fs → AreFew fs
    → HasChangeParts units part layer remove given ms → HasChangeParts units part layer remove (Some fs) (put (codes "put") (array ds) ms)
change_puts units part layer remove given fs ds ms read few parts = (
  known_put change_keys (codes "put") (array ds) ms refl parts.0,
  put_there (HasName layer) (codes "layer") (codes "put") (array ds) ms (λ e. cc) parts.1,
  put_there (HasList (λ before d. id_of (Shape part 0) d) AreAny remove) (codes "remove") (codes "put") (array ds) ms (λ e. cc) parts.2,
  put_here (HasList (feature_after units part) AreFew (Some fs)) (codes "put") (array ds) ms (ds, refl, read, few),
)

-- what a list at a key is read as, or none where there is no list
ids_told : (part : ℕ) (remove : Option (List ℕ)) (found : Option Data) → HasList (λ before d. id_of (Shape part 0) d) AreAny remove found
    → or_value [] (ids_in (Shape part 0)) found ≡ Ok (unwrap_or remove [])
unfolding ids_in
ids_told part None found has = rw has refl
ids_told part (Some ids) found has = rw (has.1, has.2) refl

puts_told : (units : Units) (part : ℕ) (given : Option (List Feature)) (found : Option Data) → HasList (feature_after units part) AreFew given found
    → (items : Items) × (or_value no_items (list (Shape part 0)) found ≡ Ok items) × (list_of (feature_after units part) items ≡ Ok (unwrap_or given [])) × (length (unwrap_or given []) ≤ 1000000)
unfolding list_after
puts_told units part None found has = (no_items, rw has refl, refl, omega arith)
puts_told units part (Some fs) found has = (has.0, rw has.1 refl, has.2, has.3)

-- the parts are a change, and it goes on the changes before
pub change_more : (units : Units) (before : List Change) (layer : Option (List ℕ)) (remove : Option (List ℕ)) (given : Option (List Feature)) (c : Change) (ms : Members) → length before < 1000000
    → layer ≡ Some c.layer → unwrap_or remove [] ≡ c.remove → unwrap_or given [] ≡ c.put → HasChangeParts units (length before) layer remove given ms → AreReadChanges before
    → (change_at units (length before) (object ms) ≡ Ok c) × AreReadChanges (before ++ c ∷ [])
unfolding change_at opened name_of
change_more units before layer remove given c ms place named removed filled gathered read =
    let name : HasName (Some c.layer) (get_member (codes "layer") ms) = rw named at gathered.1 in
    let room : nat_lt (length before) 1000000 ≡ true = grind (arith, nat_tests) in
    let ids = ids_told (length before) remove (get_member (codes "remove") ms) gathered.2 ∙ ap Ok removed in
    let puts = puts_told units (length before) given (get_member (codes "put") ms) gathered.3 in
    let fs : list_of (feature_after units (length before)) puts.0 ≡ Ok c.put = puts.2 ∙ ap Ok filled in
    let short : length c.put ≤ 1000000 = rw filled at puts.3 in
    let few = few_items (feature_after units (length before)) c.put puts.0 fs short in
    let count : nat_le (length c.put) 1000000 ≡ true = le-leb (length c.put) 1000000 short in (
      rw (room, gathered.0, name.0, name.1, ids, puts.1, few, fs) refl,
      each_more update_texts.is_read before (before ++ c ∷ []) c refl read (rw (room, name.1, count) refl),
    )

-- a feature more
pub few_more : {A : Type 0} (before : List A) (x : A) → length before < 1000000 → AreFew (before ++ x ∷ [])
few_more before x room = omega (arith, length-append before (x ∷ []))

-- ---- an update

pub update_told : (units : Units) (told : Bool) (changes : Option (List Change)) (name : List ℕ) (ms : Members) → units_named (Shape 0 0) name ≡ Ok units
    → HasUpdateParts units told changes ms → HasUpdateParts units true changes (put (codes "units") (string name) ms)
update_told units told changes name ms named parts = (
  known_put update_keys (codes "units") (string name) ms refl parts.0,
  put_here (HasUnits units true) (codes "units") (string name) ms (name, refl, named),
  put_there (HasList (λ before d. change_at units (length before) d) AreReadChanges changes) (codes "changes") (codes "units") (string name) ms (λ e. cc) parts.2,
)

pub update_filled : (units : Units) (told : Bool) (changes : Option (List Change)) (cs : List Change) (ds : Items) (ms : Members)
    → list_of (λ before d. change_at units (length before) d) ds ≡ Ok cs → AreReadChanges cs
    → HasUpdateParts units told changes ms → HasUpdateParts units told (Some cs) (put (codes "changes") (array ds) ms)
update_filled units told changes cs ds ms read all parts = (
  known_put update_keys (codes "changes") (array ds) ms refl parts.0,
  put_there (HasUnits units told) (codes "units") (codes "changes") (array ds) ms (λ e. cc) parts.1,
  put_here (HasList (λ before d. change_at units (length before) d) AreReadChanges (Some cs)) (codes "changes") (array ds) ms (ds, refl, read, all),
)

-- the parts are the changes of an update; units that are not told are centimetres
update_gathered : (units : Units) (told : Bool) (cs : List Change) (ms : Members) → (told ≡ false → units ≡ Centimetres) → HasUpdateParts units told (Some cs) ms → changes_of (object ms) ≡ Ok cs
unfolding changes_of opened
update_gathered units false cs ms plain parts = rw (parts.0, parts.1, parts.2.1, ← plain refl, parts.2.2) refl
update_gathered units true cs ms plain parts = rw (parts.0, parts.1.1, parts.1.2, parts.2.1, parts.2.2) refl

pub changes_gathered : (bytes : List ℕ) (units : Units) (told : Bool) (changes : Option (List Change)) (cs : List Change) (ms : Members) → json_of bytes ≡ Some (object ms) → changes ≡ Some cs
    → (told ≡ false → units ≡ Centimetres) → HasUpdateParts units told changes ms → (update_in bytes ≡ Ok cs) × AreReadChanges cs
unfolding update_in
changes_gathered bytes units told changes cs ms is all plain parts =
    let whole : HasUpdateParts units told (Some cs) ms = rw all at parts in
    (rw is (update_gathered units told cs ms plain whole), whole.2.3)
