-- The tokens of a text, from the front: which token the next bytes are, by the first of them.
use Rattle.std.specs.Prelude.{ℕ, zero, suc, ◌+◌, ◌-◌, ◌^◌, Bool, true, false, ◌==◌, nat_lt, if◌then◌else◌, List, [], ◌∷◌, length, take, codes, pos, Option, Some, None}
use Rattle.std.specs.List.{prefix_len}
use Rattle.std.specs.Str.{bytes_eq}
use Rattle.plain_filters.specs.declared.CompareSign.TheVariants as «compare»
use Rattle.filter_expr.specs.declared.tokens.Token.{Token}
use Rattle.filter_expr.specs.declared.tokens.Token.TheVariants as token
use Rattle.filter_expr.specs.declared.tokens.PlacedToken.{PlacedToken}
use Rattle.filter_expr.specs.Signs.{is_unknown}
use Rattle.farm_base.specs.Digits.{is_digit}
use Rattle.filter_expr.specs.Spelling.{is_blank, is_letter, is_word_byte, is_quote, is_escaped, is_attribute_byte, digits_number}

-- a token, and how many bytes it takes
abbrev pub Taken : Type 0
Taken = Token × ℕ

-- what is taken where no token stands: the unknown token
abbrev pub nothing : Taken
nothing = (token.Unknown, 1)

-- the token of a run of digits: a number, or one out of range from 2^63 on
unfoldable pub number_token : List ℕ → Token
number_token ds =
    if nat_lt (digits_number ds) (2 ^ 63) then token.Number (pos (digits_number ds))
    else token.OutOfRange

-- the number at the front of bytes that begin with a digit, and how many digits it has
unfoldable pub number_token_at : List ℕ → Taken
number_token_at bs = (number_token (take (prefix_len is_digit bs) bs), prefix_len is_digit bs)

-- the token of a word of letters, digits and `_`: one of the six that have a meaning, or the
-- unknown one
unfoldable pub word_token : List ℕ → Token
word_token w =
    if bytes_eq w (codes "true") then token.True
    else (if bytes_eq w (codes "false") then token.False
    else (if bytes_eq w (codes "null") then token.Null
    else (if bytes_eq w (codes "and") then token.And
    else (if bytes_eq w (codes "or") then token.Or
    else (if bytes_eq w (codes "not") then token.Not
    else token.Unknown)))))

-- the word at the front of bytes that begin with a letter, and how many bytes it has
unfoldable pub word_at : List ℕ → Taken
word_at bs = (word_token (take (prefix_len is_word_byte bs) bs), prefix_len is_word_byte bs)

-- the name that follows an opening bracket, up to the closing one; no token where it is empty or is
-- not closed
unfoldable pub name_token_at : List ℕ → Taken
name_token_at bs =
    if prefix_len is_attribute_byte bs == 0 then nothing
    else (if nat_lt (prefix_len is_attribute_byte bs) (length bs)
    then (
      token.Name (take (prefix_len is_attribute_byte bs) bs),
      prefix_len is_attribute_byte bs + 2,
    )
    else nothing)

-- a count that is greater by one, if there is a count
abbrev pub longer : Option ℕ → Option ℕ
longer None = None
longer (Some n) = Some (suc n)

-- what follows an opening quote, where a backslash stood just before or not: how many bytes stand
-- before the closing quote; none where it is missing or an escape is unknown
unfoldable pub quoting_len : ℕ → Bool → List ℕ → Option ℕ
quoting_len q escaped [] = None
quoting_len q true (b ∷ bs) = if is_escaped b then longer (quoting_len q false bs) else None
quoting_len q false (b ∷ bs) =
    if b == q then Some 0
    else (if b == 92 then longer (quoting_len q true bs) else longer (quoting_len q false bs))

-- the bytes between quotes without the backslashes before escaped ones
unfoldable pub quoted_text : Bool → List ℕ → List ℕ
quoted_text escaped [] = []
quoted_text true (b ∷ bs) = b ∷ quoted_text false bs
quoted_text false (b ∷ bs) = if b == 92 then quoted_text true bs else b ∷ quoted_text false bs

-- the text in quotes whose closing quote stands after so many bytes; no token where there is no
-- count
abbrev pub quoted_of : List ℕ → Option ℕ → Taken
quoted_of bs None = nothing
quoted_of bs (Some n) = (token.Quoted (quoted_text false (take n bs)), n + 2)

-- the text that follows an opening quote, up to the closing one of the same kind
unfoldable pub quoted_at : ℕ → List ℕ → Taken
quoted_at q bs = quoted_of bs (quoting_len q false bs)

-- the sign that is this byte, whatever follows
unfoldable pub single : ℕ → Token
single b =
    if b == 43 then token.Plus
    else (if b == 45 then token.Minus
    else (if b == 42 then token.Times
    else (if b == 47 then token.Divide
    else (if b == 37 then token.Rest
    else (if b == 40 then token.Open
    else (if b == 41 then token.Close
    else token.Unknown))))))

-- the sign that begins with `<`, by the byte behind it: `<=`, `<>` or `<` alone
unfoldable pub less_at : ℕ → Taken
less_at c =
    if c == 61 then (token.Compare compare.LessEqual, 2)
    else (if c == 62 then (token.Compare compare.Unequal, 2)
    else (token.Compare compare.Less, 1))

-- a sign by its first byte and the next one, which is 0 past the end
unfoldable pub sign_at : ℕ → ℕ → Taken
sign_at b c =
    if b == 61 then (token.Compare compare.Equal, 1)
    else (if b == 33 then (if c == 61 then (token.Compare compare.Unequal, 2) else (token.Not, 1))
    else (if b == 60 then less_at c
    else (if b == 62
    then (if c == 61 then (token.Compare compare.GreaterEqual, 2)
    else (token.Compare compare.Greater, 1))
    else (if b == 38 then (if c == 38 then (token.And, 2) else nothing)
    else (if b == 124 then (if c == 124 then (token.Or, 2) else nothing)
    else (single b, 1))))))

-- the first byte, or 0 where there is none
abbrev pub first_byte : List ℕ → ℕ
first_byte [] = 0
first_byte (b ∷ bs) = b

-- the token at the front of bytes, and how many bytes it takes; the unknown token where none stands
-- there
unfoldable pub token_at : List ℕ → Taken
token_at [] = nothing
token_at (b ∷ bs) =
    if is_digit b then number_token_at (b ∷ bs)
    else (if is_letter b then word_at (b ∷ bs)
    else (if b == 91 then name_token_at bs
    else (if is_quote b then quoted_at b bs
    else sign_at b (first_byte bs))))

-- the tokens of bytes that begin at this place, up to the end or to bytes at which no token stands;
-- the second number counts the bytes that still belong to the token before
unfoldable pub tokens_from : ℕ → ℕ → List ℕ → List PlacedToken
tokens_from at left [] = record { token = token.End; offset = at } ∷ []
tokens_from at (suc left) (b ∷ bs) = tokens_from (suc at) left bs
tokens_from at zero (b ∷ bs) =
    if is_blank b then tokens_from (suc at) zero bs
    else (if is_unknown (token_at (b ∷ bs)).0
    then record { token = token.Unknown; offset = at } ∷ []
    else record { token = (token_at (b ∷ bs)).0; offset = at }
    ∷ tokens_from (suc at) ((token_at (b ∷ bs)).1 - 1) bs)
