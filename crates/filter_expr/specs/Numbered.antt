-- Filters whose names are numbers in a list of names, as the filters that they stand for.
use Rattle.std.specs.Prelude.{ℕ, zero, suc, List, [], ◌∷◌}
use Rattle.farm_base.specs.declared.Value.{Value}
use Rattle.farm_base.specs.declared.Value.TheVariants.{Null, Truth, Whole, Text}
use Rattle.plain_filters.specs.Filters.{FilterTree, or_tree, and_tree, not_tree, compare_tree, name_tree, text_tree, number_tree, truth_tree, null_tree, trees_of, tree_of, tree_value}
use Rattle.filter_expr.specs.Looked.{Looked}
use Rattle.filter_expr.specs.declared.numbered.Side.{Side}
use Rattle.filter_expr.specs.declared.numbered.Side.TheVariants.{Named, Constant, Other}
use Rattle.filter_expr.specs.declared.numbered.NumberedFilter.{NumberedFilter, fold-NumberedFilter}
use Rattle.filter_expr.specs.declared.numbered.NumberedFilter.TheOpen as «open»
use Rattle.filter_expr.specs.inner.Shown.{plain}

-- the name of this number as a filter; no value where there is none
abbrev pub name_at : List (List ℕ) → ℕ → FilterTree
name_at [] n = null_tree
name_at (name ∷ names) zero = name_tree name
name_at (name ∷ names) (suc n) = name_at names n

-- a constant as a filter
abbrev pub constant : Value → FilterTree
constant Null = null_tree
constant (Truth b) = truth_tree b
constant (Whole z) = number_tree z
constant (Text t) = text_tree t

-- one side of a comparison as a filter
abbrev pub side_tree : List (List ℕ) → Side → FilterTree
side_tree names (Named n) = name_at names n
side_tree names (Constant v) = constant (plain v)
side_tree names (Other e) = tree_of e.now

-- one node, its parts being their filters
abbrev pub numbered_step : List (List ℕ) → open.NumberedFilter-F FilterTree → FilterTree
numbered_step names (open.Any parts) = or_tree (trees_of parts.items)
numbered_step names (open.All parts) = and_tree (trees_of parts.items)
numbered_step names (open.Not part) = not_tree part.value
numbered_step names (open.Compare a sign b) =
    compare_tree (side_tree names a) sign (side_tree names b)
numbered_step names (open.Truth a) = side_tree names a

-- the filter that a numbered one stands for
abbrev pub stands_for : List (List ℕ) → NumberedFilter → FilterTree
stands_for names = fold-NumberedFilter FilterTree (numbered_step names)

-- the value of a numbered filter, its names being looked up
abbrev pub numbered_value : Looked → NumberedFilter → Value
numbered_value looked f = tree_value looked.attrs (stands_for looked.names f)
