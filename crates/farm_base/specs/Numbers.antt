-- Numbers in decimal.
use Rattle.std.specs.Prelude.{ℕ, ◌&&◌, nat_lt, if◌then◌else◌, List, Option, Some, None}
use Rattle.std.specs.Fmt.{decimal}
use Rattle.std.specs.Str.{bytes_eq}
use Rattle.std.specs.Str.Parse.{digits_value}

-- the number below the bound that the text is in decimal, without sign or leading zeros
unfoldable pub decimal_below : ℕ → List ℕ → Option ℕ
decimal_below bound text =
    if bytes_eq text (decimal (digits_value 10 text)) && nat_lt (digits_value 10 text) bound
    then Some (digits_value 10 text) else None
