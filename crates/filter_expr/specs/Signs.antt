-- What the grammar asks of a token, and the four kinds of chain that signs join.
use Rattle.std.specs.Prelude.{Bool, true, false}
use Rattle.filter_expr.specs.declared.tokens.Token.{Token}
use Rattle.filter_expr.specs.declared.tokens.Token.TheVariants as token

-- ---- tests of a token

-- the token is `or`
abbrev pub is_or : Token → Bool
is_or token.Or = true
is_or _ = false

-- the token is `and`
abbrev pub is_and : Token → Bool
is_and token.And = true
is_and _ = false

-- the token is a sign of sums, `+` or `-`
abbrev pub is_sum_sign : Token → Bool
is_sum_sign token.Plus = true
is_sum_sign token.Minus = true
is_sum_sign _ = false

-- the token is a sign of products, `*`, `/` or `%`
abbrev pub is_product_sign : Token → Bool
is_product_sign token.Times = true
is_product_sign token.Divide = true
is_product_sign token.Rest = true
is_product_sign _ = false

-- the token is a sign that compares
abbrev pub is_compare : Token → Bool
is_compare (token.Compare c) = true
is_compare _ = false

-- the token is `not`
abbrev pub is_not : Token → Bool
is_not token.Not = true
is_not _ = false

-- the token is a minus sign
abbrev pub is_minus : Token → Bool
is_minus token.Minus = true
is_minus _ = false

-- the token is an opening parenthesis
abbrev pub is_open_paren : Token → Bool
is_open_paren token.Open = true
is_open_paren _ = false

-- the token is a closing parenthesis
abbrev pub is_close_paren : Token → Bool
is_close_paren token.Close = true
is_close_paren _ = false

-- the token is the end of the text
abbrev pub is_end : Token → Bool
is_end token.End = true
is_end _ = false

-- the token is the unknown one, which stands where the bytes are no token
abbrev pub is_unknown : Token → Bool
is_unknown token.Unknown = true
is_unknown _ = false

-- the token is a number that passes the greatest one
abbrev pub is_out_of_range : Token → Bool
is_out_of_range token.OutOfRange = true
is_out_of_range _ = false

-- the token is a value by itself: a name, a text, a number in range, a truth value or null
abbrev pub is_leaf : Token → Bool
is_leaf (token.Name n) = true
is_leaf (token.Quoted t) = true
is_leaf (token.Number z) = true
is_leaf token.True = true
is_leaf token.False = true
is_leaf token.Null = true
is_leaf _ = false

-- ---- chains

-- the four kinds of chain
pub data Kind : Type 0 where
  or_chain and_chain sum_chain product_chain : Kind

-- the token is a sign that joins the parts of a chain of this kind
abbrev pub joins : Kind → Token → Bool
joins or_chain = is_or
joins and_chain = is_and
joins sum_chain = is_sum_sign
joins product_chain = is_product_sign
