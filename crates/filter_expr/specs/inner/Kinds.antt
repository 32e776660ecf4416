-- The tokens of each kind, as the reading functions ask for one. Words of inner contracts.
use Rattle.std.specs.Prelude.{Bool, if◌then◌else◌, List, [], ◌∷◌, Option, Some, None}
use Rattle.filter_expr.specs.declared.tokens.Token.{Token}
use Rattle.filter_expr.specs.declared.tokens.PlacedToken.{PlacedToken}
use Rattle.filter_expr.specs.declared.tokens.TokenKind.{TokenKind}
use Rattle.filter_expr.specs.declared.tokens.TokenKind.TheVariants as kind
use Rattle.filter_expr.specs.Signs.{Kind, joins, is_or, is_and, is_not, is_minus, is_open_paren, is_close_paren, is_end, is_unknown, is_out_of_range, is_leaf, is_compare}

-- the token is of this kind
abbrev pub is_of : TokenKind → Token → Bool
is_of kind.Leaf = is_leaf
is_of kind.OutOfRange = is_out_of_range
is_of kind.And = is_and
is_of kind.Or = is_or
is_of kind.Not = is_not
is_of kind.Minus = is_minus
is_of kind.Open = is_open_paren
is_of kind.Close = is_close_paren
is_of kind.End = is_end
is_of kind.Unknown = is_unknown

-- the next token, if it is a sign that joins a chain of this kind
abbrev pub next_sign : Kind → List PlacedToken → Option Token
next_sign k [] = None
next_sign k (s ∷ ts) = if joins k s.token then Some s.token else None

-- the next token, if it is a sign that compares
abbrev pub next_compare : List PlacedToken → Option Token
next_compare [] = None
next_compare (s ∷ ts) = if is_compare s.token then Some s.token else None
