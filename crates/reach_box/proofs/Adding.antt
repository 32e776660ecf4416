-- Boxes are added one after another.
use Rattle.std.proofs.Common.{◌≡◌, ℕ, ◌+◌, ◌<◌, ◌≤◌, Bool, true, false, cond, nat_lt, ◌||◌, List, [], ◌∷◌, ◌++◌, length, take, drop, get_or, flat_map, position, Option, Some, None, refl, sym, ap, ap₂, ◌∙◌, subst, append-nil, append_assoc, arith}
use Rattle.std.specs.Prelude.{slice_get, nat_eq}
use Rattle.std.specs.List.{position_or_len}
use Rattle.std.specs.List.Sorted.{IsPermutation}
use Rattle.std.proofs.lemmas.Bool.{ltb-false}
use Rattle.std.proofs.lemmas.List.Folds.{find_at}
use Rattle.std.proofs.lemmas.Option.{slice_get_past}
use Rattle.std.proofs.lemmas.Grind.{flat_map-append}
use Rattle.std.proofs.lemmas.List.{take_more, take_all, drop_all}
use Rattle.farm_base.proofs.Outcomes.{none_past}
use Rattle.farm_history.proofs.Lists.{any-append, each-join}
use Rattle.plain_shapes.specs.Features.{Feature}
use Rattle.plain_shapes.specs.Reach.{feature_reaches}
use Rattle.geo_model.specs.declared.bounds.Bounds.{Bounds}
use Rattle.reach_box.specs.Boxes.{IsBox, box_reaches}
use Rattle.plain_shapes.specs.Data.{Change, ids_of}
use Rattle.reach_box.specs.NamedBoxes.{AreBoxesOf}
use Rattle.reach_box.specs.inner.Lookups.{Adds, feature_list, at_id, at_put, met_by}
use Rattle.reach_box.proofs.Naming.{met_ordered}

both : (fs gs : List Feature) (a b : List Bounds) → AreBoxesOf fs a → AreBoxesOf gs b → AreBoxesOf (fs ++ gs) (a ++ b)
both fs gs a b x y = record {
  sound = each-join IsBox a b x.sound y.sound;
  reach = λ size z s.
      any-append (λ c. box_reaches c size z s) a b
      ∙ (ap₂ (λ p q. p || q) (x.reach size z s) (y.reach size z s) ∙ sym (any-append (λ f. feature_reaches f size z s) fs gs));
}

-- nothing is added of no features
pub adds_none : (xs : List Bounds) → Adds [] xs xs
adds_none xs = record { more = []; is = sym (append-nil xs); boxes = record { sound = tt; reach = λ size z s. refl } }

-- boxes are added after others
pub adds_then : (fs gs : List Feature) (a b c : List Bounds) → Adds fs a b → Adds gs b c → Adds (fs ++ gs) a c
adds_then fs gs a b c x y = record {
  more = x.more ++ y.more;
  is = y.is ∙ (ap (λ t. t ++ y.more) x.is ∙ append_assoc a x.more y.more);
  boxes = both fs gs x.more y.more x.boxes y.boxes;
}

-- the boxes of one more item of a list
pub adds_more : {X : Type 0} (of : X → List Feature) (xs : List X) (i : ℕ) (x : X) (a b c : List Bounds) → i < length xs → x ≡ get_or xs i x → Adds (flat_map of (take i xs)) a b → Adds (of x) b c → Adds (flat_map of (take (i + 1) xs)) a c
adds_more of xs i x a b c lt at before here = subst (λ fs. Adds fs a c) (sym next) (adds_then (flat_map of (take i xs)) (of x) a b c before here)
  where
    next : flat_map of (take (i + 1) xs) ≡ flat_map of (take i xs) ++ of x
    next = ap (flat_map of) (take_more xs i x lt) ∙ (flat_map-append of (take i xs) (get_or xs i x ∷ []) ∙ ap (λ t. flat_map of (take i xs) ++ t) (append-nil (of (get_or xs i x)) ∙ ap of (sym at)))

-- and of all
pub adds_all : {X : Type 0} (of : X → List Feature) (xs : List X) (i : ℕ) (a b : List Bounds) → length xs ≤ i → Adds (flat_map of (take i xs)) a b → Adds (flat_map of xs) a b
adds_all of xs i a b all h = subst (λ ys. Adds (flat_map of ys) a b) (take_all i xs all) h

-- the feature at the place of an id
some_place : (b : Bool) (n i : ℕ) → cond b (Some n) None ≡ Some i → n ≡ i
some_place true n i e = cc
some_place false n i e = let none : Option ℕ = None in let never : none ≡ Some i = e in cc

abbrev of_id : ℕ → Feature → Bool
of_id id f = nat_eq f.id id

pub placed : (features : List Feature) (id place : ℕ) (f : Feature) → Some place ≡ position (of_id id) features → Some f ≡ slice_get features place → f ∷ [] ≡ at_id features id
placed features id place f at is =
    let here : position_or_len (of_id id) features ≡ place = some_place (nat_lt (position_or_len (of_id id) features) (length features)) (position_or_len (of_id id) features) place (sym at) in
    ap feature_list (is ∙ (sym (ap (slice_get features) here) ∙ sym (find_at (of_id id) features)))

-- there is none
pub unplaced : (features : List Feature) (id : ℕ) → None ≡ position (of_id id) features → [] ≡ at_id features id
unplaced features id at =
    let past : length features ≤ position_or_len (of_id id) features = ltb-false (position_or_len (of_id id) features) (length features) (none_past (nat_lt (position_or_len (of_id id) features) (length features)) (position_or_len (of_id id) features) (sym at)) in
    ap feature_list (sym (find_at (of_id id) features ∙ slice_get_past features (position_or_len (of_id id) features) past))

-- boxes that are added to none are all
pub boxes_from : (fs : List Feature) (xs : List Bounds) → Adds fs [] xs → AreBoxesOf fs xs
boxes_from fs xs a = subst (AreBoxesOf fs) (sym a.is) a.boxes

none_removed : (ids : List ℕ) → flat_map (at_id []) ids ≡ []
none_removed [] = refl
none_removed (id ∷ ids) = none_removed ids

all_put : (puts : List Feature) → flat_map (at_put []) puts ≡ puts
all_put [] = refl
all_put (p ∷ puts) = ap (λ xs. p ∷ xs) (all_put puts)

-- over no old features all that is put is named, and nothing else
pub met_new : (c : Change) → c.put ≡ met_by [] c
met_new c = sym (ap₂ (λ a b. a ++ b) (none_removed c.remove) (all_put c.put))

-- a list whose slice ends as it was ends as it was
pub kept_whole : {X : Type 0} (xs ys : List X) (n : ℕ) → ys ≡ xs → n ≡ length xs → take n (ys ++ drop (length ys) xs) ≡ xs
kept_whole xs ys n same long =
    rw (same, long) (ap (λ zs. take (length xs) (xs ++ zs)) (drop_all (length xs) xs (omega arith)) ∙ ap (take (length xs)) (append-nil xs) ∙ take_all (length xs) xs (omega arith))

-- the boxes of the old features of the ids of a change, in whatever order, and then of those that it puts
pub adds_met : (fs : List Feature) (c : Change) (ids : List ℕ) (x y z : List Bounds) → IsPermutation (c.remove ++ ids_of c.put) ids → Adds (flat_map (at_id fs) ids) x y → Adds c.put y z → Adds (met_by fs c) x z
adds_met fs c ids x y z moved old put =
    let both = adds_then (flat_map (at_id fs) ids) c.put x y z old put in
    record {
      more = both.more;
      is = both.is;
      boxes = record {
        sound = both.boxes.sound;
        reach = λ size zoom s. both.boxes.reach size zoom s ∙ met_ordered (λ f. feature_reaches f size zoom s) fs c ids moved;
      };
    }
