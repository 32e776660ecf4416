-- The text of a filter put together piece by piece, each behind what was written so far.
use Rattle.std.specs.Prelude.{ℕ, Bool, ◌==◌, ◌||◌, if◌then◌else◌, List, [], ◌∷◌, ◌++◌, encode_utf8}
use Rattle.plain_filters.specs.Filters.{FilterTree}
use Rattle.filter_expr.specs.Reading.{Part}
use Rattle.filter_texts.specs.Written.{spelling, in_place, tokens_in, put_behind, put_tokens}

-- what was written, and a space behind it if it is not empty
abbrev pub with_space : List ℕ → List ℕ
with_space [] = []
with_space (b ∷ bs) = (b ∷ bs) ++ 32 ∷ []

-- the characters that a backslash stands before: the single quote and the backslash
abbrev pub is_escaped : ℕ → Bool
is_escaped c = c == 39 || c == 92

-- a character of a text between single quotes
abbrev pub escaped_char : ℕ → List ℕ
escaped_char c = if is_escaped c then 92 ∷ encode_utf8 c else encode_utf8 c

-- a filter behind what was written, without parentheses of its own
abbrev pub put_form : FilterTree → List ℕ → List ℕ
put_form t out = put_tokens out (tokens_in t)

-- a filter behind what was written, in parentheses where it binds more weakly than `l`
abbrev pub put_tree : ℕ → FilterTree → List ℕ → List ℕ
put_tree l t out = put_tokens out (in_place l t (tokens_in t))

-- filters, each behind the same word
abbrev pub put_parts : List ℕ → ℕ → List FilterTree → List ℕ → List ℕ
put_parts word l [] out = out
put_parts word l (t ∷ ts) out = put_parts word l ts (put_tree l t (put_behind out word))

-- filters with the word between each two; for none an empty word
abbrev pub put_list : List ℕ → ℕ → List FilterTree → List ℕ → List ℕ
put_list word l [] out = put_behind out []
put_list word l (t ∷ ts) out = put_parts word l ts (put_tree l t out)

-- filters, each behind its sign
abbrev pub put_terms : ℕ → List Part → List ℕ → List ℕ
put_terms l [] out = out
put_terms l (p ∷ ps) out = put_terms l ps (put_tree l p.1 (put_behind out (spelling p.0)))
