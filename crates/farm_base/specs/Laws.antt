-- What holds of numbers.
use Rattle.std.specs.Prelude.{◌≡◌, ◌↔◌, ℕ, ◌^◌, ◌<◌, ◌≤◌, List, Some}
use Rattle.std.specs.Fmt.{decimal}
use Rattle.farm_base.specs.Numbers.{decimal_below}

-- A text is read as a number exactly where it is that number in decimal and the number is below the
-- bound.
abbrev pub IsReadAsNumber : Type 0
IsReadAsNumber = (bound n : ℕ) (text : List ℕ) → bound ≤ 2 ^ 64
    → (decimal_below bound text ≡ Some n) ↔ ((text ≡ decimal n) × (n < bound))
