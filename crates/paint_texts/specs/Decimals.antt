-- Decimal numbers of style texts: up to 12 digits, and a fraction of a few.
use Rattle.std.specs.Prelude.{◌≡◌, ◌≤◌, ◌⊎◌, ℕ, ◌+◌, ◌-◌, ◌*◌, ◌^◌, ◌==◌, ◌&&◌, true, List, [], ◌∷◌, ◌++◌, length, take, drop, nat_le, if◌then◌else◌, Option, Some, None}
use Rattle.std.specs.List.{list_all, prefix_len}
use Rattle.farm_base.specs.Digits.{is_digit, number_after}

-- the number that these digits spell
abbrev pub number : List ℕ → ℕ
number ds = number_after 0 ds

-- a whole part and a fraction as a count of the parts of which 10^places make one
unfoldable pub fixed_point : ℕ → List ℕ → List ℕ → ℕ
fixed_point places whole fraction =
    number whole * 10 ^ places + number fraction * 10 ^ (places - length fraction)

-- The grammar: up to 12 digits, then maybe a point and up to so many digits. The whole part may be
-- missing where a fraction stands, and one of the two must be there. A point has a digit behind it.
pub record IsDecimal (places : ℕ) (text : List ℕ) (n : ℕ) : Type 0 where
  pub whole : List ℕ
  pub fraction : List ℕ
  pub whole_digits : list_all is_digit whole ≡ true
  pub fraction_digits : list_all is_digit fraction ≡ true
  pub whole_fits : length whole ≤ 12
  pub fraction_fits : length fraction ≤ places
  pub spelled : ((text ≡ whole) × (1 ≤ length whole) × (fraction ≡ []))
      ⊎ ((text ≡ whole ++ 46 ∷ fraction) × (1 ≤ length fraction))
  pub value : n ≡ fixed_point places whole fraction

-- the number of the digits at the front and of what stands behind them, if the two are a decimal
-- text
abbrev pub fixed_point_in : ℕ → List ℕ → List ℕ → Option ℕ
fixed_point_in places whole [] = if nat_le 1 (length whole) && nat_le (length whole) 12
    then Some (fixed_point places whole []) else None
fixed_point_in places whole (c ∷ fraction) =
    if (c == 46) && nat_le (length whole) 12 && list_all is_digit fraction
    && nat_le 1 (length fraction) && nat_le (length fraction) places
    then Some (fixed_point places whole fraction) else None

-- the number that a decimal text says, in parts of which 10^places make one
unfoldable pub decimal_of : ℕ → List ℕ → Option ℕ
decimal_of places text = fixed_point_in places (take (prefix_len is_digit text) text)
    (drop (prefix_len is_digit text) text)

-- the number that a decimal text says, in hundredths
abbrev pub hundredths_of : List ℕ → Option ℕ
hundredths_of text = decimal_of 2 text

-- a number in thousandths, if it is at most 1
abbrev pub at_most_one : Option ℕ → Option ℕ
at_most_one None = None
at_most_one (Some n) = if nat_le n 1000 then Some n else None

-- the number that a decimal text says, in thousandths, if it is at most 1
abbrev pub thousandths_of : List ℕ → Option ℕ
thousandths_of text = at_most_one (decimal_of 3 text)
