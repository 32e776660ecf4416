-- The features that are looked up by the ids of a change are those that it names, where no two features of a layer have one id.
use Rattle.std.proofs.Common.{◌≡◌, ℕ, Bool, true, false, ◌||◌, ◌&&◌, cond, List, [], ◌∷◌, ◌++◌, filter, flat_map, find, All, Some, refl, sym, ap, ap₂, ◌∙◌, arith}
use Rattle.std.specs.Prelude.{nat_eq, option_map, unwrap_or}
use Rattle.std.specs.Str.{bytes_eq}
use Rattle.std.specs.List.{list_any, AllByRecursion, IsDistinct}
use Rattle.std.specs.List.Sorted.{IsPermutation}
use Rattle.std.proofs.lemmas.List.Sorted.{list_any-IsPermutation}
use Rattle.std.proofs.lemmas.Bool.Decides.{nat_tests}
use Rattle.std.proofs.lemmas.List.Elements.{recursion_from_All}
use Rattle.std.proofs.lemmas.Map.Keys.{IsDistinct-head, IsDistinct-tail}
use Rattle.std.proofs.Math.Bool.{or-false, or_assoc, and-or_distrib_right}
use Rattle.farm_history.proofs.Lists.{any-append, any-both, any-map}
use Rattle.plain_shapes.specs.Features.{Feature, Layer}
use Rattle.plain_shapes.specs.Data.{Change, has_id, ids_of, layer_named, IsLayer}
use Rattle.farm_plan.specs.Drawings.{features_in, names_id, named_by, named}
use Rattle.reach_box.specs.inner.Lookups.{feature_list, at_id, at_put, met_by, features_met}

-- ---- some of a list

any_false : {X : Type 0} (xs : List X) → list_any (λ x. false) xs ≡ false
any_false [] = refl
any_false (x ∷ xs) = any_false xs

any_either : {X : Type 0} (p q : X → Bool) (xs : List X) → list_any (λ x. p x || q x) xs ≡ (list_any p xs || list_any q xs)
any_either p q [] = refl
any_either p q (x ∷ xs) = grind (arith, any_either p q xs)

any_with : {X : Type 0} (p : X → Bool) (b : Bool) (xs : List X) → list_any (λ x. p x && b) xs ≡ (list_any p xs && b)
any_with p b [] = refl
any_with p b (x ∷ xs) = grind (arith, any_with p b xs)

any_flat : {X Y : Type 0} (q : Y → Bool) (f : X → List Y) (xs : List X) → list_any q (flat_map f xs) ≡ list_any (λ x. list_any q (f x)) xs
any_flat q f [] = refl
any_flat q f (x ∷ xs) = any-append q (f x) (flat_map f xs) ∙ ap (λ r. list_any q (f x) || r) (any_flat q f xs)

-- ---- by ids

-- some feature of the id passes the test
abbrev found : (Feature → Bool) → List Feature → ℕ → Bool
found q fs id = list_any (λ f. nat_eq f.id id && q f) fs

no_more : (q : Feature → Bool) (id : ℕ) (x : Feature) (xs : List Feature) → nat_eq x.id id ≡ true → AllByRecursion (λ y. nat_eq x.id y ≡ false) (ids_of xs) → found q xs id ≡ false
no_more q id x [] same apart = refl
no_more q id x (y ∷ ys) same apart =
    let other : nat_eq y.id id ≡ false = different x.id y.id id same apart.0 in
    ap₂ (λ a r. (a && q y) || r) other (no_more q id x ys same apart.1)
  where
    different : (a b n : ℕ) → nat_eq a n ≡ true → nat_eq a b ≡ false → nat_eq b n ≡ false
    different a b n e h = grind (arith, nat_tests)

at_found : (q : Feature → Bool) (id : ℕ) (fs : List Feature) → IsDistinct nat_eq (ids_of fs) → list_any q (at_id fs id) ≡ found q fs id
at_found q id [] apart = refl
at_found q id (x ∷ xs) apart =
    go (nat_eq x.id id) refl (IsDistinct-head nat_eq x.id (ids_of xs) apart) (at_found q id xs (IsDistinct-tail nat_eq x.id (ids_of xs) apart))
  where
    go : (b : Bool) → nat_eq x.id id ≡ b → AllByRecursion (λ y. nat_eq x.id y ≡ false) (ids_of xs) → list_any q (at_id xs id) ≡ found q xs id → list_any q (feature_list (cond b (Some x) (find (λ (f : Feature). nat_eq f.id id) xs))) ≡ ((b && q x) || found q xs id)
    go true same head ih = ap (λ r. q x || r) (sym (no_more q id x xs same head))
    go false other head ih = ih

swapped : (q : Feature → Bool) (ids : List ℕ) (fs : List Feature) → list_any (found q fs) ids ≡ list_any (λ f. has_id ids f.id && q f) fs
swapped q ids [] = any_false ids
swapped q ids (f ∷ fs) =
    any_either (λ id. nat_eq f.id id && q f) (found q fs) ids
    ∙ ap₂ (λ a r. a || r) (any_with (nat_eq f.id) (q f) ids) (swapped q ids fs)

one_change : (q : Feature → Bool) (fs : List Feature) (c : Change) → IsDistinct nat_eq (ids_of fs) → list_any q (met_by fs c) ≡ list_any q (filter (λ f. names_id c f.id) fs ++ c.put)
one_change q fs c apart =
    any-append q (flat_map (at_id fs) c.remove) (flat_map (at_put fs) c.put)
    ∙ (ap₂ (λ a b. a || b) (any_flat q (at_id fs) c.remove ∙ (ap (λ t. list_any t c.remove) (λ i id. at_found q id fs apart i) ∙ swapped q c.remove fs)) put
    ∙ (sym (or_assoc (list_any (λ f. has_id c.remove f.id && q f) fs) (list_any (λ f. has_id (ids_of c.put) f.id && q f) fs) (list_any q c.put))
    ∙ (ap (λ a. a || list_any q c.put) old ∙ sym (any-append q (filter (λ f. names_id c f.id) fs) c.put))))
  where
    of_put : (p : Feature) → list_any q (at_put fs p) ≡ (found q fs p.id || q p)
    of_put p = any-append q (at_id fs p.id) (p ∷ []) ∙ ap₂ (λ a b. a || b) (at_found q p.id fs apart) (or-false (q p))

    put : list_any q (flat_map (at_put fs) c.put) ≡ (list_any (λ f. has_id (ids_of c.put) f.id && q f) fs || list_any q c.put)
    put =
        any_flat q (at_put fs) c.put ∙ (ap (λ t. list_any t c.put) (λ i p. of_put p i)
        ∙ (any_either (λ p. found q fs p.id) q c.put ∙ ap (λ a. a || list_any q c.put) (sym (any-map (λ (f : Feature). f.id) (found q fs) c.put) ∙ swapped q (ids_of c.put) fs)))

    old : (list_any (λ f. has_id c.remove f.id && q f) fs || list_any (λ f. has_id (ids_of c.put) f.id && q f) fs) ≡ list_any q (filter (λ f. names_id c f.id) fs)
    old =
        sym (any_either (λ f. has_id c.remove f.id && q f) (λ f. has_id (ids_of c.put) f.id && q f) fs)
        ∙ (ap (λ t. list_any t fs) (λ i f. sym (and-or_distrib_right (has_id c.remove f.id) (has_id (ids_of c.put) f.id) (q f)) i) ∙ sym (any-both q (λ f. names_id c f.id) fs))

-- ---- by layers

layer_apart : (layers : List Layer) (name : List ℕ) → AllByRecursion IsLayer layers → IsDistinct nat_eq (ids_of (features_in layers name))
unfolding IsDistinct
layer_apart [] name each = tt
layer_apart (l ∷ layers) name each = go (bytes_eq l.name name) (layer_apart layers name each.1)
  where
    go : (b : Bool) → IsDistinct nat_eq (ids_of (features_in layers name)) → IsDistinct nat_eq (ids_of (unwrap_or (option_map (λ (x : Layer). x.features) (cond b (Some l) (layer_named layers name))) []))
    go true ih = each.0.distinct
    go false ih = ih

each_change : (q : Feature → Bool) (layers : List Layer) (changes : List Change) → AllByRecursion IsLayer layers → list_any q (features_met layers changes) ≡ list_any q (named layers changes)
each_change q layers [] each = refl
each_change q layers (c ∷ changes) each =
    any-append q (met_by (features_in layers c.layer) c) (features_met layers changes)
    ∙ (ap₂ (λ a b. a || b) (one_change q (features_in layers c.layer) c (layer_apart layers c.layer each)) (each_change q layers changes each) ∙ sym (any-append q (named_by layers c) (named layers changes)))

pub met_named : (q : Feature → Bool) (layers : List Layer) (changes : List Change) → All IsLayer layers → list_any q (features_met layers changes) ≡ list_any q (named layers changes)
met_named q layers changes valid = each_change q layers changes (recursion_from_All IsLayer layers valid)

-- ---- in order

-- some feature of one of the ids passes the test
abbrev some_of : (Feature → Bool) → List Feature → List ℕ → Bool
some_of q fs ids = list_any (λ id. list_any q (at_id fs id)) ids

crossed : (a b c d : Bool) → ((a || (b || false)) || (c || d)) ≡ ((a || c) || (b || d))
crossed a b c d = grind arith

put_apart : (q : Feature → Bool) (fs puts : List Feature) → list_any q (flat_map (at_put fs) puts) ≡ (some_of q fs (ids_of puts) || list_any q puts)
put_apart q fs [] = refl
put_apart q fs (f ∷ puts) =
    any-append q (at_put fs f) (flat_map (at_put fs) puts)
    ∙ (ap₂ (λ a r. a || r) (any-append q (at_id fs f.id) (f ∷ [])) (put_apart q fs puts)
    ∙ crossed (list_any q (at_id fs f.id)) (q f) (some_of q fs (ids_of puts)) (list_any q puts))

-- the old features of the ids that a change removes or puts, in whatever order these are, and those that it puts are what it meets
pub met_ordered : (q : Feature → Bool) (fs : List Feature) (c : Change) (ids : List ℕ) → IsPermutation (c.remove ++ ids_of c.put) ids → list_any q (flat_map (at_id fs) ids ++ c.put) ≡ list_any q (met_by fs c)
met_ordered q fs c ids moved = apart ∙ (or_assoc (some_of q fs c.remove) (some_of q fs (ids_of c.put)) (list_any q c.put) ∙ sym met)
  where
    some_old : list_any q (flat_map (at_id fs) ids) ≡ (some_of q fs c.remove || some_of q fs (ids_of c.put))
    some_old =
        any_flat q (at_id fs) ids
        ∙ (sym (list_any-IsPermutation (λ id. list_any q (at_id fs id)) (c.remove ++ ids_of c.put) ids moved) ∙ any-append (λ id. list_any q (at_id fs id)) c.remove (ids_of c.put))

    apart : list_any q (flat_map (at_id fs) ids ++ c.put) ≡ ((some_of q fs c.remove || some_of q fs (ids_of c.put)) || list_any q c.put)
    apart = any-append q (flat_map (at_id fs) ids) c.put ∙ ap (λ r. r || list_any q c.put) some_old

    met : list_any q (met_by fs c) ≡ (some_of q fs c.remove || (some_of q fs (ids_of c.put) || list_any q c.put))
    met = any-append q (flat_map (at_id fs) c.remove) (flat_map (at_put fs) c.put) ∙ ap₂ (λ a r. a || r) (any_flat q (at_id fs) c.remove) (put_apart q fs c.put)
