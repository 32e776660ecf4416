-- Maps by the sizes of their tiles.
use Rattle.std.specs.Prelude.{ℕ, Bool, false, ◌==◌, Option, Some, None}
use Rattle.farm_plan.specs.Plans.{MapPlan}

-- whether there is a map, and its tiles have that size
abbrev pub has_size : Option MapPlan → ℕ → Bool
has_size None size = false
has_size (Some mp) size = mp.tile == size
