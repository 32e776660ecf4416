-- The plain value that a borrowed one stands for.
use Rattle.std.specs.Prelude.{ℤ, Option, Some, None}
use Rattle.farm_base.specs.declared.Value.{Value}
use Rattle.farm_base.specs.declared.Value.TheVariants as «plainly»
use Rattle.filter_expr.specs.declared.value.ValueRef.{ValueRef}
use Rattle.filter_expr.specs.declared.value.ValueRef.TheVariants.{Null, Truth, Whole, Text}

-- the value, with the text in place of the reference to it
abbrev pub plain : ValueRef → Value
plain Null = plainly.Null
plain (Truth b) = plainly.Truth b
plain (Whole z) = plainly.Whole z
plain (Text t) = plainly.Text t.now

-- a number, or null for none
abbrev pub plain_number : Option ℤ → Value
plain_number (Some z) = plainly.Whole z
plain_number None = plainly.Null
