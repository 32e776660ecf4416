-- The tokens of a filter text, by how they are spelled.
use Rattle.std.specs.Prelude.{◌≡◌, ◌≢◌, ℕ, ◌+◌, ◌^◌, ◌<◌, ◌≤◌, Bool, false, not, ◌==◌, ◌||◌, ◌&&◌, nat_le, if◌then◌else◌, IsTrue, List, [], ◌∷◌, ◌++◌, length, codes, pos, ◌⊎◌}
use Rattle.std.specs.List.{list_any, list_all}
use Rattle.std.specs.Str.{bytes_eq}
use Rattle.farm_base.specs.Digits.{is_digit, number_after}
use Rattle.plain_filters.specs.declared.CompareSign.TheVariants as «compare»
use Rattle.filter_expr.specs.declared.tokens.Token.{Token}
use Rattle.filter_expr.specs.declared.tokens.Token.TheVariants as token
use Rattle.filter_expr.specs.declared.tokens.PlacedToken.{PlacedToken}

-- ---- bytes

-- a space, tab, newline or carriage return
abbrev pub is_blank : ℕ → Bool
is_blank b = b == 32 || b == 9 || b == 10 || b == 13

-- a byte from `a` to `z` or from `A` to `Z`
abbrev pub is_letter : ℕ → Bool
is_letter b = (nat_le 97 b && nat_le b 122) || (nat_le 65 b && nat_le b 90)

-- a letter, digit or `_`
abbrev pub is_word_byte : ℕ → Bool
is_word_byte b = is_letter b || is_digit b || b == 95

-- one of the two quotes, `'` and `"`
abbrev pub is_quote : ℕ → Bool
is_quote b = b == 39 || b == 34

-- what may follow a backslash: another one, or a quote
abbrev pub is_escaped : ℕ → Bool
is_escaped b = b == 92 || is_quote b

-- what may stand in a name between brackets: every byte but the closing bracket
abbrev pub is_attribute_byte : ℕ → Bool
is_attribute_byte b = not (b == 93)

-- ---- spellings

-- one digit or more
abbrev pub IsDigits : List ℕ → Type 0
IsDigits us = (us ≢ []) × IsTrue (list_all is_digit us)

-- the number that decimal digits spell
abbrev pub digits_number : List ℕ → ℕ
digits_number = number_after 0

-- how a text is written between quotes of this kind: a backslash stands before each quote or
-- backslash that is escaped, and a quote of the other kind may stand by itself
abbrev pub IsQuoting : ℕ → List ℕ → List ℕ → Type 0
IsQuoting q [] us = us ≡ []
IsQuoting q (c ∷ cs) us =
    (vs : List ℕ) × IsQuoting q cs vs
    × (((us ≡ c ∷ vs) × (c ≢ q) × (c ≢ 92)) ⊎ ((us ≡ 92 ∷ c ∷ vs) × IsTrue (is_escaped c)))

-- the bytes spell the token
abbrev pub SpellsToken : Token → List ℕ → Type 0
SpellsToken (token.Name n) us =
    (us ≡ 91 ∷ (n ++ 93 ∷ [])) × (n ≢ []) × IsTrue (list_all is_attribute_byte n)
SpellsToken (token.Quoted t) us =
    (q : ℕ) × (vs : List ℕ) × (us ≡ q ∷ (vs ++ q ∷ [])) × IsTrue (is_quote q) × IsQuoting q t vs
SpellsToken (token.Number z) us =
    IsDigits us × (z ≡ pos (digits_number us)) × (digits_number us < 2 ^ 63)
SpellsToken token.OutOfRange us = IsDigits us × (2 ^ 63 ≤ digits_number us)
SpellsToken token.True us = us ≡ codes "true"
SpellsToken token.False us = us ≡ codes "false"
SpellsToken token.Null us = us ≡ codes "null"
SpellsToken token.And us = (us ≡ codes "and") ⊎ (us ≡ codes "&&")
SpellsToken token.Or us = (us ≡ codes "or") ⊎ (us ≡ codes "||")
SpellsToken token.Not us = (us ≡ codes "not") ⊎ (us ≡ codes "!")
SpellsToken (token.Compare compare.Equal) us = us ≡ codes "="
SpellsToken (token.Compare compare.Unequal) us = (us ≡ codes "!=") ⊎ (us ≡ codes "<>")
SpellsToken (token.Compare compare.Less) us = us ≡ codes "<"
SpellsToken (token.Compare compare.LessEqual) us = us ≡ codes "<="
SpellsToken (token.Compare compare.Greater) us = us ≡ codes ">"
SpellsToken (token.Compare compare.GreaterEqual) us = us ≡ codes ">="
SpellsToken token.Plus us = us ≡ codes "+"
SpellsToken token.Minus us = us ≡ codes "-"
SpellsToken token.Times us = us ≡ codes "*"
SpellsToken token.Divide us = us ≡ codes "/"
SpellsToken token.Rest us = us ≡ codes "%"
SpellsToken token.Open us = us ≡ codes "("
SpellsToken token.Close us = us ≡ codes ")"
SpellsToken token.End us = ⊥
SpellsToken token.Unknown us = ⊥

-- ---- where a spelling ends

-- all signs of filters, as they are spelled
abbrev pub signs : List (List ℕ)
signs =
    codes "=" ∷ codes "!=" ∷ codes "<>" ∷ codes "<" ∷ codes "<=" ∷ codes ">" ∷ codes ">="
    ∷ codes "&&" ∷ codes "||" ∷ codes "!" ∷ codes "+" ∷ codes "-" ∷ codes "*" ∷ codes "/"
    ∷ codes "%" ∷ codes "(" ∷ codes ")" ∷ []

-- there is a first byte, and it passes the test
abbrev pub begins_with : (ℕ → Bool) → List ℕ → Bool
begins_with test [] = false
begins_with test (b ∷ bs) = test b

-- with the byte b after it the spelling would be a longer one: a digit after a number, a letter,
-- digit or `_` after a word, and after a sign a byte that makes it another sign
abbrev pub lengthens : List ℕ → ℕ → Bool
lengthens us b =
    if begins_with is_digit us then is_digit b
    else (if begins_with is_letter us then is_word_byte b
    else list_any (bytes_eq (us ++ b ∷ [])) signs)

-- the spelling ends before these bytes
abbrev pub EndsBefore : List ℕ → List ℕ → Type 0
EndsBefore us [] = Unit {0}
EndsBefore us (b ∷ bs) = lengthens us b ≡ false

-- the token stands at the front: its spelling, which is as long as can be, and what follows it
abbrev pub StandsFirst : Token → List ℕ → List ℕ → Type 0
StandsFirst t us more = SpellsToken t us × EndsBefore us more

-- ---- the tokens of a text

-- the bytes, which begin at this place of the text, are these tokens with blanks before, between
-- and behind them, up to the end or to bytes at which no token stands
abbrev pub AreTokens : ℕ → List ℕ → List PlacedToken → Type 0
AreTokens at bytes [] = ⊥
AreTokens at bytes (s ∷ others) =
    (gap : List ℕ) × (us : List ℕ) × (more : List ℕ) × (bytes ≡ gap ++ (us ++ more))
    × IsTrue (list_all is_blank gap) × (s.offset ≡ at + length gap)
    × ((StandsFirst s.token us more × AreTokens (at + length gap + length us) more others)
    ⊎ ((others ≡ []) × (us ≡ [])
    × (((s.token ≡ token.End) × (more ≡ []))
    ⊎ ((s.token ≡ token.Unknown) × (more ≢ []) × (begins_with is_blank more ≡ false)
    × ((t : Token) → (vs : List ℕ) → (ws : List ℕ) → more ≡ vs ++ ws → StandsFirst t vs ws → ⊥)))))

-- the tokens of a whole text
abbrev pub TokensOf : List ℕ → List PlacedToken → Type 0
TokensOf text ts = AreTokens 0 text ts
