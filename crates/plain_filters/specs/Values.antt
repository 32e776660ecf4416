-- The value of a filter for the attributes of a feature, by cases over its tree.
use Rattle.std.specs.Prelude.{ℕ, ◌-◌, ◌^◌, List, [], ◌∷◌, Bool, true, false, not, ◌&&◌, if◌then◌else◌, ℤ, pos, negsuc, ◌+ℤ◌, ◌-ℤ◌, ◌*ℤ◌, int_lt, int_le, int_div, int_rem}
use Rattle.std.specs.Ordering.{nat_cmp, int_eq, is_lt}
use Rattle.std.specs.Cmp.Lexicographic.{slice_cmp}
use Rattle.std.specs.Str.{bytes_eq}
use Rattle.farm_base.specs.declared.Value.{Value}
use Rattle.farm_base.specs.declared.Value.TheVariants.{Null, Truth, Whole, Text}
use Rattle.farm_base.specs.declared.Attr.{Attr}
use Rattle.plain_filters.specs.declared.expr.CompareSign.{CompareSign}
use Rattle.plain_filters.specs.declared.expr.CompareSign.TheVariants.{Equal, Unequal, Less, LessEqual, Greater, GreaterEqual}
use Rattle.plain_filters.specs.declared.expr.SumSign.{SumSign}
use Rattle.plain_filters.specs.declared.expr.SumSign.TheVariants.{Plus, Minus}
use Rattle.plain_filters.specs.declared.expr.ProductSign.{ProductSign}
use Rattle.plain_filters.specs.declared.expr.ProductSign.TheVariants.{Times, Divide, Rest}

-- null, false, 0 and the empty text count as false, all else as true
abbrev pub truth : Value → Bool
truth Null = false
truth (Truth b) = b
truth (Whole z) = not (int_eq z (pos 0))
truth (Text t) = not (bytes_eq t [])

-- the value of the attribute of this name, the first where there are several; an absent one is null
abbrev pub attribute : List ℕ → List Attr → Value
attribute name [] = Null
attribute name (a ∷ others) = if bytes_eq a.name name then a.value else attribute name others

-- one kind and equal, null with null included
abbrev pub same : Value → Value → Bool
same Null Null = true
same (Truth true) (Truth b) = b
same (Truth false) (Truth b) = not b
same (Whole x) (Whole y) = int_eq x y
same (Text s) (Text t) = bytes_eq s t
same _ _ = false

-- of one kind that has an order: truth values, whole numbers or texts
abbrev pub have_order : Value → Value → Bool
have_order (Truth a) (Truth b) = true
have_order (Whole x) (Whole y) = true
have_order (Text s) (Text t) = true
have_order _ _ = false

-- below by number, by bytes of text, or false before true; never across kinds or with null
abbrev pub below : Value → Value → Bool
below (Truth a) (Truth b) = not a && b
below (Whole x) (Whole y) = int_lt x y
below (Text s) (Text t) = is_lt (slice_cmp nat_cmp s t)
below _ _ = false

-- what a comparing sign tests of two values
abbrev pub compares : CompareSign → Value → Value → Bool
compares Equal v w = same v w
compares Unequal v w = not (same v w)
compares Less v w = below v w
compares LessEqual v w = have_order v w && not (below w v)
compares Greater v w = below w v
compares GreaterEqual v w = have_order v w && not (below v w)

-- the whole number, or null where it is no i64
abbrev pub whole_or_null : ℤ → Value
whole_or_null z = if int_le (negsuc (2 ^ 63 - 1)) z && int_le z (pos (2 ^ 63 - 1))
    then Whole z else Null

-- the exact result of two whole numbers; null for other kinds
abbrev pub of_numbers : (ℤ → ℤ → Value) → Value → Value → Value
of_numbers f (Whole x) (Whole y) = f x y
of_numbers f _ _ = Null

-- null for the divisor 0, and else the result that is given
abbrev pub divided_by : ℤ → Value → Value
divided_by y v = if int_eq y (pos 0) then Null else v

-- the exact sum or difference
abbrev pub sum_of : SumSign → Value → Value → Value
sum_of Plus = of_numbers (λ x y. whole_or_null (x +ℤ y))
sum_of Minus = of_numbers (λ x y. whole_or_null (x -ℤ y))

-- the exact product, the quotient rounded towards zero, or the rest with the dividend's sign
abbrev pub product_of : ProductSign → Value → Value → Value
product_of Times = of_numbers (λ x y. whole_or_null (x *ℤ y))
product_of Divide = of_numbers (λ x y. divided_by y (whole_or_null (int_div x y)))
product_of Rest = of_numbers (λ x y. divided_by y (whole_or_null (int_rem x y)))

-- 0 less the value: the exact result, or null
abbrev pub negative_of : Value → Value
negative_of v = sum_of Minus (Whole (pos 0)) v
