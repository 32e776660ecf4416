-- A map by its name.
use Rattle.std.proofs.Common.{◌≡◌, ℕ, zero, suc, ◌+◌, ◌<◌, Bool, List, [], ◌∷◌, ◌++◌, length, map, take, slice_get, Option, Some, option_map, position, bytes_eq, refl, ap, ◌∙◌, arith, ◌^◌}
use Rattle.std.proofs.lemmas.List.{take_all, length-map}
use Rattle.farm_plan.specs.Plans.{MapPlan}
use Rattle.farm_shared.specs.inner.Turns.{AreNames}

pub position-map : {X Y : Type 0} (f : X → Y) (q : Y → Bool) (xs : List X) → position q (map f xs) ≡ position (λ x. q (f x)) xs
position-map f q [] = refl
position-map f q (x ∷ xs) = grind (arith, position-map f q xs)

-- a place among the names is one among the maps
pub named : (maps : List MapPlan) (names slice : List (List ℕ)) (name : List ℕ) (o : Option ℕ) → AreNames maps names → slice ≡ names → o ≡ position (λ n. bytes_eq n name) slice →
    o ≡ position (λ m. bytes_eq m.name name) maps
named maps names slice name o are same is = is ∙ (ap (position (λ n. bytes_eq n name)) (same ∙ are.0) ∙ position-map (λ (m : MapPlan). m.name) (λ n. bytes_eq n name) maps)

-- one name more
pub named_more : (maps : List MapPlan) (names : List (List ℕ)) (name : List ℕ) (k j : ℕ) → j ≡ k + 1 → k < length maps → names ≡ map (λ m. m.name) (take k maps) → Some name ≡ option_map (λ m. m.name) (slice_get maps k) →
    names ++ name ∷ [] ≡ map (λ m. m.name) (take j maps)
named_more [] names name k j next lt are is = absurd (omega arith)
named_more (m ∷ maps) names name k zero next lt are is = absurd (omega arith)
named_more (m ∷ maps) names name zero (suc j) next lt are is = let same : name ≡ m.name = cc in let none : j ≡ zero = omega arith in rw (are, same, none) refl
named_more (m ∷ maps) names name (suc k) (suc j) next lt are is = go names are (named_more maps (map (λ x. x.name) (take k maps)) name k j (omega arith) (omega arith) refl is)
  where
    go : (ns : List (List ℕ)) → ns ≡ m.name ∷ map (λ x. x.name) (take k maps) → map (λ x. x.name) (take k maps) ++ name ∷ [] ≡ map (λ x. x.name) (take j maps) →
        ns ++ name ∷ [] ≡ m.name ∷ map (λ x. x.name) (take j maps)
    go ns same ih = rw same (ap (λ l. m.name ∷ l) ih)

-- all names
pub named_all : (maps : List MapPlan) (names : List (List ℕ)) (k : ℕ) → k ≡ length maps → k < 2 ^ 32 → names ≡ map (λ m. m.name) (take k maps) → AreNames maps names
named_all maps names k all few are =
    let is : names ≡ map (λ m. m.name) maps = are ∙ ap (map (λ m. m.name)) (take_all k maps (omega arith)) in
    let long = ap length is ∙ length-map maps (λ m. m.name) in
    (is, omega arith)
