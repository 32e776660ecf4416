-- Edits of features by their numbers.
use Rattle.std.specs.Prelude.{ℕ, suc, Bool, true, false, nat_eq, ltb, cond, List, [], ◌∷◌, ◌++◌, map, Option}
use Rattle.std.specs.List.{filter_map}
use Rattle.std.specs.Borrow.{Bor}
use Rattle.std.specs.Option.{option_copied, option_to_list}
use Rattle.plain_shapes.specs.Features.{Feature}

-- what the references stand for
abbrev pub edits_of : List (ℕ × Option (Bor Feature)) → List (ℕ × Option Feature)
edits_of edits = map (λ e. (e.0, option_copied e.1)) edits

-- the first edit is of the number
abbrev pub edits_at : ℕ → List (ℕ × Option Feature) → Bool
edits_at n [] = false
edits_at n (e ∷ edits) = nat_eq e.0 n

-- the first edit is of a greater number, or there is none
abbrev pub begins_past : ℕ → List (ℕ × Option Feature) → Bool
begins_past n [] = true
begins_past n (e ∷ edits) = ltb n e.0

-- what stands by the edits
abbrev pub standing_edits : List (ℕ × Option Feature) → List Feature
standing_edits edits = filter_map (λ e. e.1) edits

-- the features, of which the first has the number n, after edits in the order of their numbers;
-- what is put past the last one stands after it
abbrev pub edited : ℕ → List (ℕ × Option Feature) → List Feature → List Feature
edited n edits [] = standing_edits edits
edited n [] (f ∷ features) = f ∷ features
edited n (e ∷ edits) (f ∷ features) =
    cond (nat_eq e.0 n) (option_to_list e.1 ++ edited (suc n) edits features)
    (f ∷ edited (suc n) (e ∷ edits) features)
