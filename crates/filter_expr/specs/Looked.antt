-- Filters that are asked of the features one after another.
use Rattle.std.specs.Prelude.{ℕ, Bool, true, List, Option, Some, None}
use Rattle.farm_base.specs.declared.Attr.{Attr}
use Rattle.plain_filters.specs.Filters.{FilterTree, tree_holds}

-- names, and the attributes in which they are looked up
pub record Looked : Type 0 where
  pub names : List (List ℕ)
  pub attrs : List Attr

-- filters, or none in place of one, and the attributes of which they are asked
pub record Asked : Type 0 where
  pub filters : List (Option FilterTree)
  pub attrs : List Attr

-- the filter holds of the attributes; where there is none everything passes
abbrev pub passes : List Attr → Option FilterTree → Bool
passes attrs None = true
passes attrs (Some tree) = tree_holds attrs tree
