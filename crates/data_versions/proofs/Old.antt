-- Slots in which the features from the start stand.
use Rattle.std.proofs.Common.{◌≡◌, ℕ, zero, suc, List, [], ◌∷◌, get_or, refl, sym, ◌∙◌, ap, subst, inr, arith}
use Rattle.std.specs.Prelude.{slice_get, Bool, true, false, nat_eq, map, Some, None}
use Rattle.std.specs.Ordering.{nat_cmp}
use Rattle.std.specs.BTreeMap.{BTreeMap, is_at, IsEmpty}
use Rattle.std.specs.Map.{lookup}
use Rattle.std.specs.List.{AllByRecursion, IsDistinct}
use Rattle.std.proofs.lemmas.Bool.{eq-eqb, eqb-true}
use Rattle.std.proofs.lemmas.List.Quantifiers.{position-Some}
use Rattle.std.proofs.lemmas.Option.{slice_get-get_or}
use Rattle.std.proofs.lemmas.Map.Keys.{IsDistinct-head, IsDistinct-tail}
use Rattle.plain_shapes.specs.Features.{Feature}
use Rattle.plain_shapes.specs.Data.{ids_of}
use Rattle.data_versions.specs.Near.{place_of}
use Rattle.data_versions.specs.inner.Slots.{standing, slot_id, KnowsPlaces}
use Rattle.data_versions.proofs.Finds.{position-cons, no_place}
use Rattle.data_versions.proofs.Standing.{none_some, some_same}

-- ---- where each feature stands in its slot

pub whole_stands : (features : List Feature) → standing (map Some features) ≡ features
whole_stands [] = refl
whole_stands (f ∷ features) = ap (λ fs. f ∷ fs) (whole_stands features)

first_is : (b : Bool) (f : Feature) (features : List Feature) (id k : ℕ) → nat_eq f.id id ≡ b → AllByRecursion (λ q. nat_eq f.id q ≡ false) (ids_of features)
    → place_of features id ≡ Some k → place_of (f ∷ features) id ≡ Some (suc k)
first_is true f features id k same new later =
    let none : place_of features id ≡ None = no_place features id (subst (λ (x : ℕ). AllByRecursion (λ q. nat_eq x q ≡ false) (ids_of features)) (eqb-true f.id id same) new) in cc
first_is false f features id k other new later =
    position-cons (λ g. nat_eq g.id id) f features ∙ rw (other, later) (ap Some (omega arith))

-- each one's place is that of its id
first_places : (features : List Feature) → IsDistinct nat_eq (ids_of features) → (id k : ℕ) → slot_id (get_or (map Some features) k None) ≡ Some id
    → place_of features id ≡ Some k
first_places [] distinct id k here = cc
first_places (f ∷ features) distinct id zero here =
    position-cons (λ g. nat_eq g.id id) f features ∙ rw (eq-eqb f.id id (some_same f.id id here)) refl
first_places (f ∷ features) distinct id (suc k) here =
    first_is (nat_eq f.id id) f features id k refl (IsDistinct-head nat_eq f.id (ids_of features) distinct)
    (first_places features (IsDistinct-tail nat_eq f.id (ids_of features) distinct) id k here)

pub knows_first : (places : BTreeMap ℕ ℕ) (features : List Feature) → IsEmpty places → IsDistinct nat_eq (ids_of features)
    → KnowsPlaces places features (map Some features)
knows_first places features empty distinct =
    let at : (id k : ℕ) → slot_id (get_or (map Some features) k None) ≡ Some id → place_of features id ≡ Some k = first_places features distinct in record {
      found = λ q j there. none_some (ap (λ es. lookup (is_at (nat_cmp q)) es) empty) there;
      held = λ q j there. inr (at q j there);
      one = λ q i j a b. some_same i j (sym (at q i a) ∙ at q j b);
    }

-- the feature of an id's place has the id
pub place_holds : (features : List Feature) (id k : ℕ) → place_of features id ≡ Some k → slot_id (slice_get features k) ≡ Some id
place_holds [] id k at = cc
place_holds (f ∷ features) id k at =
    let found = position-Some (λ (g : Feature). nat_eq g.id id) (f ∷ features) k f at in
    ap slot_id (slice_get-get_or (f ∷ features) k f found.0) ∙ ap Some (eqb-true (get_or (f ∷ features) k f).id id found.1)
