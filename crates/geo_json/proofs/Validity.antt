-- What was read is data, or an update.
use Rattle.std.proofs.Common.{◌≡◌, ℕ, ◌≤◌, ◌<◌, true, false, not, ◌&&◌, List, [], ◌∷◌, ◌++◌, length, refl, sym, ◌∙◌, subst, arith, append_assoc, append-nil, length-append}
use Rattle.std.specs.Prelude.{nat_eq, nat_lt, nat_le}
use Rattle.std.specs.List.{list_any, IsDistinct}
use Rattle.std.specs.Str.{bytes_eq}
use Rattle.std.specs.Cmp.{IsEquivalence}
use Rattle.std.proofs.lemmas.Bool.Decides.{nat_tests}
use Rattle.std.proofs.lemmas.List.{map-append}
use Rattle.std.proofs.lemmas.List.Elements.{All-from_recursion, All-push}
use Rattle.std.proofs.lemmas.Map.Keys.{IsDistinct-push}
use Rattle.std.proofs.lemmas.Cmp.{nat_list_eq_equiv, nat_eq_equiv}
use Rattle.std.proofs.lemmas.Bool.{and_parts, not-true}
use Rattle.serde_json.specs.declared.value.Value.{Value}
use Rattle.serde_json.specs.Events.{items_len}
use Rattle.serde_json.specs.View.{items_view}
use Rattle.farm_base.specs.Earlier.{each_after}
use Rattle.plain_shapes.specs.Features.{Feature, Layer}
use Rattle.plain_shapes.specs.Data.{Change, is_name, has_id, ids_of, names_of, IsLayer, IsDataset, IsChange, IsUpdate}
use Rattle.geo_json.specs.FeatureTexts.{is_new}
use Rattle.geo_json.specs.DataTexts.{has_layer}
use Rattle.geo_json.specs.DataTexts as data_texts
use Rattle.geo_json.specs.UpdateTexts as update_texts
use Rattle.reading.proofs.Members.{items_len_of}

-- ---- how many values

pub values_few : (vs : List Value) → nat_le (items_len (items_view vs)) 1000000 ≡ true → length vs ≤ 1000000
values_few vs few = let short : items_len (items_view vs) ≤ 1000000 = grind (arith, nat_tests) in rw (items_len_of vs) at short

-- ---- tests

-- ---- distinct ids

new_each : (front xs : List Feature) → IsDistinct nat_eq (ids_of front) → each_after is_new front xs ≡ true → IsDistinct nat_eq (ids_of (front ++ xs))
new_each front [] distinct h = subst (λ (fs : List Feature). IsDistinct nat_eq (ids_of fs)) (sym (append-nil front)) distinct
new_each front (x ∷ xs) distinct h =
    let new : has_id (ids_of front) x.id ≡ false = not-true (has_id (ids_of front) x.id) (and_parts (is_new front x) (each_after is_new (front ++ x ∷ []) xs) h).0 in
    let pushed : IsDistinct nat_eq (ids_of (front ++ x ∷ [])) =
    subst (λ (ids : List ℕ). IsDistinct nat_eq ids) (sym (map-append (λ (g : Feature). g.id) front (x ∷ []))) (IsDistinct-push nat_eq_equiv (ids_of front) x.id distinct new) in
    subst (λ (fs : List Feature). IsDistinct nat_eq (ids_of fs)) (append_assoc front (x ∷ []) xs)
    (new_each (front ++ x ∷ []) xs pushed (and_parts (is_new front x) (each_after is_new (front ++ x ∷ []) xs) h).1)

distinct_ids : (xs : List Feature) → each_after is_new [] xs ≡ true → IsDistinct nat_eq (ids_of xs)
unfolding IsDistinct
distinct_ids xs h = new_each [] xs tt h

-- ---- data

equal_names : IsEquivalence bytes_eq
equal_names = nat_list_eq_equiv

name_among : (front : List Layer) (name : List ℕ) → list_any (bytes_eq name) (names_of front) ≡ has_layer front name
name_among [] name = refl
name_among (l ∷ front) name = rw (equal_names.symm name l.name, name_among front name) refl

one_layer : (front : List Layer) (l : Layer) → IsDataset front → data_texts.is_read front l ≡ true → IsDataset (front ++ l ∷ [])
one_layer front l valid h =
    let room = nat_lt (length front) 64 in
    let new = not (has_layer front l.name) in
    let few = nat_le (length l.features) 1000000 in
    let ids = each_after is_new [] l.features in
    let h4 = (and_parts (((room && new) && is_name l.name) && few) ids h).0 in
    let h3 = (and_parts ((room && new) && is_name l.name) few h4).0 in
    let h2 = (and_parts (room && new) (is_name l.name) h3).0 in
    let small : length front < 64 = grind (arith, nat_tests, (and_parts room new h2).0) in
    let short : length l.features ≤ 1000000 = grind (arith, nat_tests, (and_parts ((room && new) && is_name l.name) few h4).1) in
    let absent : list_any (bytes_eq l.name) (names_of front) ≡ false = name_among front l.name ∙ not-true (has_layer front l.name) (and_parts room new h2).1 in
    record {
      few = omega (arith, length-append front (l ∷ []));
      each = All-push IsLayer front l valid.each (record { named = (and_parts (room && new) (is_name l.name) h3).1; few = short; distinct = distinct_ids l.features (and_parts (((room && new) && is_name l.name) && few) ids h).1 });
      distinct = subst (λ (ns : List (List ℕ)). IsDistinct bytes_eq ns) (sym (map-append (λ (m : Layer). m.name) front (l ∷ [])))
          (IsDistinct-push equal_names (names_of front) l.name valid.distinct absent);
    }

layers_each : (front xs : List Layer) → IsDataset front → each_after data_texts.is_read front xs ≡ true → IsDataset (front ++ xs)
layers_each front [] valid h = subst (λ (ls : List Layer). IsDataset ls) (sym (append-nil front)) valid
layers_each front (l ∷ xs) valid h =
    subst (λ (ls : List Layer). IsDataset ls) (append_assoc front (l ∷ []) xs)
    (layers_each (front ++ l ∷ []) xs
    (one_layer front l valid (and_parts (data_texts.is_read front l) (each_after data_texts.is_read (front ++ l ∷ []) xs) h).0)
    (and_parts (data_texts.is_read front l) (each_after data_texts.is_read (front ++ l ∷ []) xs) h).1)

no_layers : IsDataset []
unfolding IsDistinct
no_layers = record { few = omega arith; each = All-from_recursion IsLayer [] tt; distinct = tt }

-- layers that were read one after another are data
pub dataset_read : (layers : List Layer) → each_after data_texts.is_read [] layers ≡ true → IsDataset layers
dataset_read layers h = layers_each [] layers no_layers h

-- ---- updates

one_change : (front : List Change) (c : Change) → IsUpdate front → update_texts.is_read front c ≡ true → IsUpdate (front ++ c ∷ [])
one_change front c valid h =
    let room = nat_lt (length front) 1000000 in
    let few = nat_le (length c.put) 1000000 in
    let h2 = (and_parts (room && is_name c.layer) few h).0 in
    let small : length front < 1000000 = grind (arith, nat_tests, (and_parts room (is_name c.layer) h2).0) in
    let short : length c.put ≤ 1000000 = grind (arith, nat_tests, (and_parts (room && is_name c.layer) few h).1) in
    record {
      few = omega (arith, length-append front (c ∷ []));
      each = All-push IsChange front c valid.each (record { named = (and_parts room (is_name c.layer) h2).1; few = short });
    }

changes_each : (front xs : List Change) → IsUpdate front → each_after update_texts.is_read front xs ≡ true → IsUpdate (front ++ xs)
changes_each front [] valid h = subst (λ (cs : List Change). IsUpdate cs) (sym (append-nil front)) valid
changes_each front (c ∷ xs) valid h =
    subst (λ (cs : List Change). IsUpdate cs) (append_assoc front (c ∷ []) xs)
    (changes_each (front ++ c ∷ []) xs
    (one_change front c valid (and_parts (update_texts.is_read front c) (each_after update_texts.is_read (front ++ c ∷ []) xs) h).0)
    (and_parts (update_texts.is_read front c) (each_after update_texts.is_read (front ++ c ∷ []) xs) h).1)

-- changes that were read one after another are an update
pub update_read : (changes : List Change) → each_after update_texts.is_read [] changes ≡ true → IsUpdate changes
update_read changes h = changes_each [] changes (record { few = omega arith; each = All-from_recursion IsChange [] tt }) h
