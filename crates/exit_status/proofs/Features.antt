-- Each fault that data may be refused for has a text.
use Rattle.std.specs.Prelude.{ℕ, ◌^◌, ◌-◌, not, nat_lt, nat_le, List, [], ◌∷◌, ◌++◌, length, codes, Option, Some, None, option_and_then, is_some, Result, IsTrue, refl}
use Rattle.std.specs.List.{list_any}
use Rattle.std.specs.Str.{bytes_eq}
use Rattle.serde_json.specs.Data.{Data, null, boolean, number, string, array, object, Items, no_items, item, Members, no_members, member}
use Rattle.serde_json.specs.Find.{get, as_str, as_array, as_object, as_number, as_i64}
use Rattle.serde_json.specs.Events.{items_len}
use Rattle.farm_base.specs.declared.values.Attr.{Attr}
use Rattle.plain_shapes.specs.declared.shapes.Geometry.{Geometry}
use Rattle.plain_shapes.specs.Features.{Feature, Layer}
use Rattle.plain_shapes.specs.Data.{is_name}
use Rattle.plain_shapes.specs.Limits.{most_points, most_attrs}
use Rattle.geo_model.specs.declared.faults.GeoFault.TheVariants.{TooFewPoints, OutOfWorld, TooManyPoints, TooManyAttrs}
use Rattle.geo_model.specs.Shapes.{has_too_few, is_outside, parts_of, point_count}
use Rattle.reading.specs.Json.{json_of}
use Rattle.reading.specs.Steps.{◌>>=◌}
use Rattle.reading.specs.Values.{text, list, signed}
use Rattle.geo_json.specs.declared.faults.DataFault.{DataFault}
use Rattle.geo_json.specs.declared.faults.DataFault.TheVariants as fault
use Rattle.geo_json.specs.declared.coordinates.Units.{Units}
use Rattle.geo_json.specs.declared.coordinates.Units.TheVariants.{Centimetres}
use Rattle.geo_json.specs.Attributes.{attr_value, attr_of, attrs_after, attrs_of}
use Rattle.geo_json.specs.Coordinates.{units_named, units_at, pair_of, point_of}
use Rattle.geo_json.specs.DataTexts.{has_layer, layer_said, layers_of, dataset_in}
use Rattle.geo_json.specs.FeatureTexts.{id_of, feature_of, is_new, new_feature_after}
use Rattle.geo_json.specs.Geometries.{path_points, paths_of, one_shape, geometry_of}
use Rattle.geo_json.specs.Openings.{object_of, name_of, name_at}
use Rattle.geo_json.specs.inner.Parts.{attrs_at, made_by_checks}
use Rattle.exit_status.specs.DataFaults.{data_text}
use Rattle.exit_status.specs.Told.{DataAreTold}
use Rattle.exit_status.proofs.Steps.{OnFault, of_fault, step, either, checks, has, needs, may, opens, wholes, lists}

abbrev HasText : DataFault → Type 0
HasText e = IsTrue (is_some (data_text e))

abbrev Told : {A : Type 0} → Result A DataFault → Type 0
Told r = OnFault HasText r

-- ---- values; the shape is the fault of their place

list_told : (shape : DataFault) → HasText shape → (d : Data) → Told (list shape d)
list_told shape h d = has HasText (as_array d) shape h

signed_told : (shape : DataFault) → HasText shape → (d : Data) → Told (signed shape d)
signed_told shape h d = has HasText (option_and_then as_i64 (as_number d)) shape h

object_told : (shape : DataFault) → HasText shape → (names : List (List ℕ)) (d : Data) → Told (object_of shape names d)
object_told shape h names d = opens HasText shape shape names d h h

name_told : (shape : DataFault) → HasText shape → (d : Data) → Told (name_of shape d)
unfolding name_of
name_told shape h d =
    step HasText _ _ (has HasText (as_str d) shape h) (λ name.
    step HasText _ _ (checks HasText (is_name name) shape h) (λ u. tt))

name_at_told : (shape : DataFault) → HasText shape → (key : List ℕ) (d : Data) → Told (name_at shape key d)
name_at_told shape h key d = needs HasText shape (name_of shape) (get key d) h (name_told shape h)

units_told : (shape : DataFault) → HasText shape → (d : Data) → Told (units_at shape d)
units_told shape h d = may HasText Centimetres (λ u. text shape u >>= units_named shape) (get (codes "units") d) (λ u.
    step HasText _ _ (has HasText (as_str u) shape h) (λ name.
    either HasText (bytes_eq name (codes "cm")) _ _ tt (either HasText (bytes_eq name (codes "world")) _ _ tt h)))

-- ---- attributes

value_told : (shape : DataFault) → HasText shape → (d : Data) → Told (attr_value shape d)
value_told shape h null = tt
value_told shape h (boolean b) = tt
value_told shape h (number n) = step HasText _ _ (signed_told shape h (number n)) (λ z. tt)
value_told shape h (string t) = tt
value_told shape h (array ds) = h
value_told shape h (object ms) = h

attr_told : (shape : DataFault) → HasText shape → (key : List ℕ) (d : Data) → Told (attr_of shape key d)
unfolding attr_of
attr_told shape h key d =
    step HasText _ _ (checks HasText (is_name key) shape h) (λ u.
    step HasText _ _ (value_told shape h d) (λ v. tt))

attrs_after_told : (shape : DataFault) → HasText shape → (before : List Attr) (members : Members) → Told (attrs_after shape before members)
unfolding attrs_after
attrs_after_told shape h before no_members = tt
attrs_after_told shape h before (member key d others) = step HasText _ _ (attr_told shape h key d) (λ a. attrs_after_told shape h (before ++ a ∷ []) others)

attrs_told : (shape : DataFault) → HasText shape → (d : Data) → Told (attrs_at shape d)
unfolding attrs_of
attrs_told shape h d = may HasText [] (attrs_of shape) (get (codes "attrs") d) (λ e.
    step HasText _ _ (has HasText (as_object e) shape h) (λ members. attrs_after_told shape h [] members))

-- ---- shapes

pair_told : (units : Units) (shape : DataFault) → HasText shape → (items : Items) → Told (pair_of units shape items)
pair_told units shape h no_items = h
pair_told units shape h (item x no_items) = h
pair_told units shape h (item x (item y no_items)) =
    step HasText _ _ (signed_told shape h x) (λ a.
    step HasText _ _ (signed_told shape h y) (λ b. tt))
pair_told units shape h (item x (item y (item z ds))) = h

point_told : (units : Units) (shape : DataFault) → HasText shape → (d : Data) → Told (point_of units shape d)
unfolding point_of
point_told units shape h d = step HasText _ _ (list_told shape h d) (pair_told units shape h)

path_told : (units : Units) (shape : DataFault) → HasText shape → (d : Data) → Told (path_points units shape d)
unfolding path_points
path_told units shape h d = step HasText _ _ (list_told shape h d) (λ items. lists HasText _ [] items (λ before p. point_told units shape h p))

paths_told : (units : Units) (shape : DataFault) → HasText shape → (d : Data) → Told (paths_of units shape d)
unfolding paths_of
paths_told units shape h d = step HasText _ _ (list_told shape h d) (λ items. lists HasText _ [] items (λ before p. path_told units shape h p))

shape_told : (units : Units) (shape : DataFault) → HasText shape → (a b c : Option Data) → Told (one_shape units shape a b c)
shape_told units shape h (Some d) None None = step HasText _ _ (path_told units shape h d) (λ points. tt)
shape_told units shape h None (Some d) None = step HasText _ _ (paths_told units shape h d) (λ lines. tt)
shape_told units shape h None None (Some d) = step HasText _ _ (paths_told units shape h d) (λ rings. tt)
shape_told units shape h None None None = h
shape_told units shape h None (Some d) (Some e) = h
shape_told units shape h (Some d) None (Some e) = h
shape_told units shape h (Some d) (Some e) None = h
shape_told units shape h (Some d) (Some e) (Some f) = h

geometry_told : (units : Units) (shape : DataFault) → HasText shape → (d : Data) → Told (geometry_of units shape d)
unfolding geometry_of
geometry_told units shape h d = step HasText _ _ (object_told shape h _ d) (λ u. shape_told units shape h _ _ _)

-- ---- features

parts_told : (part place id : ℕ) (g : Geometry) (attrs : List Attr) → Told (made_by_checks part place id g attrs)
parts_told part place id g attrs =
    step HasText _ _ (checks HasText (not (has_too_few g)) (fault.Geo TooFewPoints part place) refl) (λ a.
    step HasText _ _ (checks HasText (not (list_any (list_any is_outside) (parts_of g))) (fault.Geo OutOfWorld part place) refl) (λ b.
    step HasText _ _ (checks HasText (not (nat_lt most_points (point_count g))) (fault.Geo TooManyPoints part place) refl) (λ c.
    step HasText _ _ (checks HasText (not (nat_lt most_attrs (length attrs))) (fault.Geo TooManyAttrs part place) refl) (λ e. tt))))

id_told : (shape : DataFault) → HasText shape → (d : Data) → Told (id_of shape d)
unfolding id_of
id_told shape h d = wholes HasText shape shape 0 (2 ^ 64 - 1) d h h

feature_told : (units : Units) (part place : ℕ) (d : Data) → Told (feature_of units part place d)
unfolding feature_of
feature_told units part place d =
    step HasText _ _ (object_told (fault.Shape part place) refl _ d) (λ u.
    step HasText _ _ (needs HasText (fault.Shape part place) (id_of (fault.Shape part place)) (get (codes "id") d) refl (id_told (fault.Shape part place) refl)) (λ id.
    step HasText _ _ (needs HasText (fault.Shape part place) (geometry_of units (fault.Shape part place)) (get (codes "geometry") d) refl (geometry_told units (fault.Shape part place) refl)) (λ g.
    step HasText _ _ (attrs_told (fault.Shape part place) refl d) (λ attrs.
    parts_told part place id g attrs))))

new_told : (units : Units) (part : ℕ) (before : List Feature) (d : Data) → Told (new_feature_after units part before d)
unfolding new_feature_after
new_told units part before d =
    step HasText _ _ (feature_told units part (length before) d) (λ f.
    step HasText _ _ (checks HasText (is_new before f) (fault.DoubleId part f.id) refl) (λ u. tt))

-- ---- data

layer_told : (units : Units) (part : ℕ) (before : List Layer) (d : Data) → Told (layer_said units part before d)
unfolding layer_said
layer_told units part before d =
    step HasText _ _ (checks HasText (nat_lt part 64) (fault.Shape 64 0) refl) (λ t.
    step HasText _ _ (object_told (fault.Shape part 0) refl _ d) (λ u.
    step HasText _ _ (name_at_told (fault.Shape part 0) refl (codes "name") d) (λ name.
    step HasText _ _ (needs HasText (fault.Shape part 0) (list (fault.Shape part 0)) (get (codes "features") d) refl (list_told (fault.Shape part 0) refl)) (λ items.
    step HasText _ _ (checks HasText (not (has_layer before name)) (fault.DoubleLayer part) refl) (λ v.
    step HasText _ _ (checks HasText (nat_le (items_len items) 1000000) (fault.TooMany part) refl) (λ w.
    step HasText _ _ (lists HasText (new_feature_after units part) [] items (new_told units part)) (λ features. tt)))))))

layers_told : (d : Data) → Told (layers_of d)
unfolding layers_of
layers_told d =
    step HasText _ _ (object_told (fault.Shape 0 0) refl _ d) (λ u.
    step HasText _ _ (units_told (fault.Shape 0 0) refl d) (λ units.
    step HasText _ _ (needs HasText (fault.Shape 0 0) (list (fault.Shape 0 0)) (get (codes "layers") d) refl (list_told (fault.Shape 0 0) refl)) (λ items.
    lists HasText (λ before e. layer_said units (length before) before e) [] items (λ before e. layer_told units (length before) before e))))

in_told : (bytes : List ℕ) → Told (dataset_in bytes)
unfolding dataset_in
in_told bytes = step HasText _ _ (has HasText (json_of bytes) fault.NotJson refl) layers_told

pub data_are_told : DataAreTold
data_are_told bytes e q = of_fault HasText (dataset_in bytes) e (in_told bytes) q
