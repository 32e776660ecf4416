-- The names of a shared farm's maps.
use Rattle.std.specs.Prelude.{ℕ, ◌<◌, ◌≡◌, ◌^◌, List, length, map}
use Rattle.farm_plan.specs.Plans.{MapPlan}

-- the names of the maps, in order, which a place of 32 bits can count
abbrev pub AreNames : List MapPlan → List (List ℕ) → Type 0
AreNames maps names = (names ≡ map (λ m. m.name) maps) × (length names < 2 ^ 32)
