-- A layer while it is changed: slots in which features stand, or stood.
use Rattle.std.specs.Prelude.{◌≡◌, ◌⊎◌, ◌≤◌, ◌-◌, ℕ, suc, not, nat_eq, if◌then◌else◌, List, [], ◌∷◌, ◌++◌, length, replicate, map, filter, get_or, Option, Some, None, option_map, unwrap_or}
use Rattle.std.specs.Ordering.{nat_cmp}
use Rattle.std.specs.List.{filter_map}
use Rattle.std.specs.Map.{lookup}
use Rattle.std.specs.BTreeMap.{BTreeMap, get, is_at}
use Rattle.std.specs.Borrow.{Bor}
use Rattle.std.specs.Option.{option_copied}
use Rattle.plain_shapes.specs.Features.{Feature}
use Rattle.plain_shapes.specs.Data.{has_id, ids_of}
use Rattle.data_versions.specs.Near.{place_of}

-- the features that stand in the slots, in order
abbrev pub standing : List (Option Feature) → List Feature
standing slots = filter_map (λ s. s) slots

-- the id of the feature in a slot
abbrev pub slot_id : Option Feature → Option ℕ
slot_id s = option_map (λ f. f.id) s

-- the slots from the start: one for each feature, which stands there, and as many more as there are
-- then, in which nothing stands
abbrev pub base_slots : List Feature → ℕ → List (Option Feature)
base_slots features count = map Some features ++ replicate (count - length features) None

-- the slots, of which the first has the number n, with what was put into some
abbrev pub overlaid : ℕ → List (ℕ × Option (Bor Feature)) → List (Option Feature)
    → List (Option Feature)
overlaid n put [] = []
overlaid n put (s ∷ slots) = unwrap_or (option_map option_copied (lookup (is_at (nat_cmp n)) put)) s
    ∷ overlaid (suc n) put slots

-- no slot past the last one was put into
pub record IsPutWithin (put : List (ℕ × Option (Bor Feature))) (features : List Feature)
    (count : ℕ) : Type 0 where
  pub enough : length features ≤ count
  pub none : (n : ℕ) → count ≤ n → lookup (is_at (nat_cmp n)) put ≡ None

-- the value of Slots: what stands in each, and the features from the start
pub record SlotsSeen : Type 0 where
  pub slots : List (Option Feature)
  pub first : List Feature

-- the id stands in no slot
abbrev pub StandsNowhere : List (Option Feature) → ℕ → Type 0
StandsNowhere slots id = (k : ℕ) → slot_id (get_or slots k None) ≡ Some id → ⊥

-- each id stands in one slot: in the one that the places tell, or else in that of its place among
-- the features from the start
pub record KnowsPlaces (places : BTreeMap ℕ ℕ) (features : List Feature)
    (slots : List (Option Feature)) : Type 0 where
  pub found : (id k : ℕ) → get nat_cmp places id ≡ Some k → slot_id (get_or slots k None) ≡ Some id
  pub held : (id k : ℕ) → slot_id (get_or slots k None) ≡ Some id → (get nat_cmp places id ≡ Some k)
      ⊎ (place_of features id ≡ Some k)
  pub one : (id i j : ℕ) → slot_id (get_or slots i None) ≡ Some id
      → slot_id (get_or slots j None) ≡ Some id → i ≡ j

-- the features without the one of the id
abbrev pub without : ℕ → List Feature → List Feature
without id features = filter (λ f. not (nat_eq id f.id)) features

-- the features with another one in place of the one of its id
abbrev pub replaced_by : Feature → List Feature → List Feature
replaced_by f features = map (λ g. if nat_eq f.id g.id then f else g) features

-- the features with one more put: in place of the one of its id, or last
abbrev pub with_put : Feature → List Feature → List Feature
with_put f features = if has_id (ids_of features) f.id then replaced_by f features
    else features ++ f ∷ []
