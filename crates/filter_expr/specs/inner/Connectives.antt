-- The two chains that a word joins, by that word. Words of inner contracts.
use Rattle.plain_filters.specs.Filters.{FilterTree, FilterTrees, or_tree, and_tree}
use Rattle.filter_expr.specs.declared.parser.Connective.{Connective}
use Rattle.filter_expr.specs.declared.parser.Connective.TheVariants as connective
use Rattle.filter_expr.specs.declared.tokens.Token.{Token}
use Rattle.filter_expr.specs.declared.tokens.Token.TheVariants as token
use Rattle.filter_expr.specs.declared.tokens.TokenKind.{TokenKind}
use Rattle.filter_expr.specs.declared.tokens.TokenKind.TheVariants as kind
use Rattle.filter_expr.specs.Signs.{Kind, or_chain, and_chain}
use Rattle.filter_expr.specs.Reading.{Reader, Inner, or_in, and_in, not_in}

-- the token of the word, as it is asked for
abbrev pub connective_kind : Connective → TokenKind
connective_kind connective.Or = kind.Or
connective_kind connective.And = kind.And

-- the token of the word
abbrev pub connective_token : Connective → Token
connective_token connective.Or = token.Or
connective_token connective.And = token.And

-- the chain of the word
abbrev pub chain_kind : Connective → Kind
chain_kind connective.Or = or_chain
chain_kind connective.And = and_chain

-- the filter that the word makes of parts
abbrev pub connected : Connective → FilterTrees → FilterTree
connected connective.Or = or_tree
connected connective.And = and_tree

-- how such a chain is read
abbrev pub chain_in : Connective → Inner → Reader FilterTree
chain_in connective.Or = or_in
chain_in connective.And = and_in

-- how its parts are read
abbrev pub part_in : Connective → Inner → Reader FilterTree
part_in connective.Or = and_in
part_in connective.And = not_in
