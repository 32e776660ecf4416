-- What is put at the place of a key is the key's, within the list there is something at each place, and past the last nothing is put.
use Rattle.std.proofs.Common.{◌≡◌, ℕ, zero, suc, ◌<◌, ◌≤◌, true, false, List, [], ◌∷◌, length, get_or, Some, option_map, is_some, refl, ap, inl, inr, ◌⊎◌, arith}
use Rattle.std.specs.Prelude.{position, slice_get}
use Rattle.std.specs.Map.{set_value, keys_of}
use Rattle.std.proofs.lemmas.Bool.{cases_lt}
use Rattle.std.proofs.lemmas.List.Quantifiers.{position-Some}
use Rattle.indexmap.specs.IndexMap.{set_value_at}
use Rattle.farm_history.specs.declared.keys.Key.{Key}
use Rattle.farm_history.specs.Plans.{same_key}

first_value : {X : Type 0} (es : List (Key × X)) (k : Key) (i : ℕ) (w : X) → i < length (keys_of es) → same_key k (get_or (keys_of es) i k) ≡ true → ((j : ℕ) → j < i → same_key k (get_or (keys_of es) j k) ≡ false)
    → set_value_at es i w ≡ set_value (same_key k) es w
first_value [] k i w within here before = absurd (omega (arith, within))
first_value (e ∷ es) k zero w within here before = rw here refl
first_value (e ∷ es) k (suc i) w within here before =
    rw (before 0 (omega arith)) (ap (λ xs. e ∷ xs) (first_value es k i w (omega (arith, within)) here (λ j low. before (suc j) (omega (arith, low)))))

pub placed_value : {X : Type 0} (es : List (Key × X)) (k : Key) (i : ℕ) (w : X) → position (same_key k) (keys_of es) ≡ Some i → set_value_at es i w ≡ set_value (same_key k) es w
placed_value es k i w at = let found = position-Some (same_key k) (keys_of es) i k at in first_value es k i w found.0 found.1 found.2

pub some_at : {X : Type 0} (es : List (Key × X)) (i : ℕ) → i < length es → is_some (option_map (λ e. e.1) (slice_get es i)) ≡ true
some_at [] i within = absurd (omega (arith, within))
some_at (e ∷ es) zero within = refl
some_at (e ∷ es) (suc i) within = some_at es i (omega (arith, within))

pub past_from : (i n : ℕ) → (i < n → true ≡ false) → n ≤ i
past_from i n none = go (cases_lt i n)
  where
    go : (i < n) ⊎ (n ≤ i) → n ≤ i
    go (inl within) = let never : true ≡ false = none within in cc
    go (inr past) = past

pub put_past : {X : Type 0} (es : List (Key × X)) (i : ℕ) (w : X) → length es ≤ i → set_value_at es i w ≡ es
put_past [] i w past = refl
put_past (e ∷ es) zero w past = absurd (omega (arith, past))
put_past (e ∷ es) (suc i) w past = ap (λ xs. e ∷ xs) (put_past es i w (omega (arith, past)))

pub key_at_place : {X : Type 0} (es : List (Key × X)) (i : ℕ) (k : Key) (v : X) → slice_get es i ≡ Some (k, v) → slice_get (keys_of es) i ≡ Some k
key_at_place [] i k v at = cc
key_at_place {X} (e ∷ es) zero k v at = let same : e ≡ (k, v) = cc in ap (λ (x : Key × X). Some x.0) same
key_at_place (e ∷ es) (suc i) k v at = key_at_place es i k v at
