-- Colours of style texts, as CSS writes them and Mapnik reads them.
use Rattle.std.specs.Prelude.{◌≡◌, ◌≤◌, ◌⊎◌, ℕ, ◌+◌, ◌-◌, ◌*◌, ◌==◌, ◌&&◌, Bool, true, List, [], ◌∷◌, ◌++◌, length, take, drop, codes, nat_le, if◌then◌else◌, Option, Some, None, find, option_map, option_and_then}
use Rattle.std.specs.Option.{option_or}
use Rattle.std.specs.List.{Contains, list_all, prefix_len}
use Rattle.std.specs.Str.{bytes_eq}
use Rattle.plain_shapes.specs.declared.colour.Colour.{Colour}
use Rattle.farm_base.specs.Digits.{is_digit}
use Rattle.paint_texts.specs.Decimals.{number}

-- the colour of so much red, green and blue
abbrev pub rgb : ℕ → ℕ → ℕ → Colour
rgb r g b = record { r = r; g = g; b = b }

-- the sixteen colours that have a name
abbrev pub colour_names : List (List ℕ × Colour)
colour_names =
    (codes "aqua", rgb 0 255 255) ∷ (codes "black", rgb 0 0 0) ∷ (codes "blue", rgb 0 0 255)
    ∷ (codes "fuchsia", rgb 255 0 255)
    ∷ (codes "gray", rgb 128 128 128) ∷ (codes "green", rgb 0 128 0) ∷ (codes "lime", rgb 0 255 0)
    ∷ (codes "maroon", rgb 128 0 0)
    ∷ (codes "navy", rgb 0 0 128) ∷ (codes "olive", rgb 128 128 0) ∷ (codes "purple", rgb 128 0 128)
    ∷ (codes "red", rgb 255 0 0)
    ∷ (codes "silver", rgb 192 192 192) ∷ (codes "teal", rgb 0 128 128)
    ∷ (codes "white", rgb 255 255 255) ∷ (codes "yellow", rgb 255 255 0) ∷ []

-- the colour of this name, if it is one of the sixteen
unfoldable pub colour_by_name : List ℕ → Option Colour
colour_by_name text = option_map (λ e. e.1) (find (λ e. bytes_eq text e.0) colour_names)

-- the value of a hexadecimal digit of either case
abbrev pub hex : ℕ → Option ℕ
hex c = if is_digit c then Some (c - 48) else
    if nat_le 97 c && nat_le c 102 then Some (c - 87) else
    if nat_le 65 c && nat_le c 70 then Some (c - 55) else None

-- ---- the grammar

-- two hexadecimal digits of a channel of this value
abbrev pub IsChannel : ℕ → ℕ → ℕ → Type 0
IsChannel high low n =
    (x : ℕ) × (y : ℕ) × (hex high ≡ Some x) × (hex low ≡ Some y) × (n ≡ 16 * x + y)

-- a hash and three hexadecimal digits, each of them doubled
abbrev pub IsShortHash : List ℕ → Colour → Type 0
IsShortHash text c = (r : ℕ) × (g : ℕ) × (b : ℕ) × (text ≡ codes "#" ++ r ∷ g ∷ b ∷ [])
    × IsChannel r r c.r × IsChannel g g c.g × IsChannel b b c.b

-- a hash and six hexadecimal digits
abbrev pub IsLongHash : List ℕ → Colour → Type 0
IsLongHash text c =
    (r : ℕ) × (s : ℕ) × (g : ℕ) × (h : ℕ) × (b : ℕ) × (d : ℕ) × (text ≡ codes "#" ++ r ∷ s ∷ g ∷ h
    ∷ b ∷ d ∷ []) × IsChannel r s c.r × IsChannel g h c.g × IsChannel b d c.b

-- the byte of a space
abbrev pub is_space : ℕ → Bool
is_space c = c == 32

-- one to three digits of a number up to 255, with spaces round them
pub record IsPart (text : List ℕ) (n : ℕ) : Type 0 where
  pub before : List ℕ
  pub digits : List ℕ
  pub after : List ℕ
  pub spelled : text ≡ before ++ digits ++ after
  pub spaces_before : list_all is_space before ≡ true
  pub are_digits : list_all is_digit digits ≡ true
  pub spaces_after : list_all is_space after ≡ true
  pub some : 1 ≤ length digits
  pub few : length digits ≤ 3
  pub value : n ≡ number digits
  pub fits : n ≤ 255

-- `rgb(`, three numbers with commas between them, and `)`
abbrev pub IsMixed : List ℕ → Colour → Type 0
IsMixed text c =
    (r : List ℕ) × (g : List ℕ) × (b : List ℕ) × (text ≡ codes "rgb(" ++ r ++ codes "," ++ g
    ++ codes "," ++ b ++ codes ")") × IsPart r c.r × IsPart g c.g × IsPart b c.b

-- a text of this colour: one of the three, or one of the sixteen names
abbrev pub IsColour : List ℕ → Colour → Type 0
IsColour text c =
    IsShortHash text c ⊎ (IsLongHash text c ⊎ (IsMixed text c ⊎ Contains colour_names (text, c)))

-- ---- the colour of a text, as a function

-- a channel by the values of its two hexadecimal digits
abbrev pub two_digits : Option ℕ → Option ℕ → Option ℕ
two_digits (Some high) (Some low) = Some (16 * high + low)
two_digits (Some high) None = None
two_digits None low = None

-- the colour of three channels, if each of them is there
abbrev pub three_channels : Option ℕ → Option ℕ → Option ℕ → Option Colour
three_channels (Some r) (Some g) (Some b) = Some (rgb r g b)
three_channels (Some r) (Some g) None = None
three_channels (Some r) None b = None
three_channels None g b = None

-- the colour of three hexadecimal digits, each of them doubled, or of six
unfoldable pub channels : List ℕ → Option Colour
channels (r ∷ g ∷ b ∷ []) = three_channels (two_digits (hex r) (hex r)) (two_digits (hex g) (hex g))
    (two_digits (hex b) (hex b))
channels (r ∷ s ∷ g ∷ h ∷ b ∷ c ∷ []) = three_channels (two_digits (hex r) (hex s))
    (two_digits (hex g) (hex h)) (two_digits (hex b) (hex c))
channels _ = None

-- the rest of a text that begins with this byte
abbrev pub behind : ℕ → List ℕ → Option (List ℕ)
behind sign [] = None
behind sign (c ∷ rest) = if c == sign then Some rest else None

-- the colour of a hash and the three or six digits behind it
unfoldable pub hash_colour : List ℕ → Option Colour
hash_colour text = option_and_then channels (behind 35 text)

-- the text without the spaces at its front
abbrev pub without_spaces : List ℕ → List ℕ
without_spaces text = drop (prefix_len is_space text) text

-- a number of so many digits, one to three of them and up to 255, and what stands behind the sign
-- that ends it
abbrev pub part_of : ℕ → ℕ → List ℕ → Option (ℕ × List ℕ)
part_of sign len text =
    if nat_le 1 len && nat_le len 3 && nat_le (number (take len text)) 255
    then option_map (λ rest. (number (take len text), rest))
    (behind sign (without_spaces (drop len text))) else None

-- the number at the front of a text, with spaces round it, and what stands behind the sign that
-- ends it
unfoldable pub number_before : ℕ → List ℕ → Option (ℕ × List ℕ)
number_before sign text =
    part_of sign (prefix_len is_digit (without_spaces text)) (without_spaces text)

-- the colour of three numbers, where nothing follows them
abbrev pub only : ℕ → ℕ → ℕ → List ℕ → Option Colour
only r g b [] = Some (rgb r g b)
only r g b (c ∷ rest) = None

-- the colour of three numbers that two commas and a parenthesis end
unfoldable pub parts : List ℕ → Option Colour
parts text = option_and_then (λ r. option_and_then (λ g. option_and_then (λ b. only r.0 g.0 b.0 b.1)
    (number_before 41 g.1)) (number_before 44 r.1)) (number_before 44 text)

-- the colour of a text that begins with `rgb(` and goes on with three numbers
unfoldable pub rgb_colour : List ℕ → Option Colour
rgb_colour text = if bytes_eq (take 4 text) (codes "rgb(") then parts (drop 4 text) else None

-- a colour text: a hash and three or six digits, or rgb(r,g,b), or a name
unfoldable pub colour_of : List ℕ → Option Colour
colour_of text = option_or (hash_colour text) (option_or (rgb_colour text) (colour_by_name text))
