-- What is read as a number, told of what was answered.
use Rattle.std.proofs.Common.{◌≡◌, ℕ, ◌<◌, List, Option, Some, None, sym, IfSome}
use Rattle.std.specs.Fmt.{decimal}
use Rattle.farm_base.specs.Numbers.{decimal_below}
use Rattle.farm_base.proofs.NumberTexts.{number_means}

-- it is a number below the bound, and the text is it in decimal
pub some_below : (bound : ℕ) (text : List ℕ) (r : Option ℕ) → r ≡ decimal_below bound text → IfSome r (λ n. (text ≡ decimal n) × (n < bound))
some_below bound text None is = tt
some_below bound text (Some n) is = number_means bound n text (sym is)

-- the text is it in decimal
pub some_read : (bound : ℕ) (text : List ℕ) (r : Option ℕ) → r ≡ decimal_below bound text → IfSome r (λ n. text ≡ decimal n)
some_read bound text None is = tt
some_read bound text (Some n) is = (number_means bound n text (sym is)).0
