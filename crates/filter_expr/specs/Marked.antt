-- Marks that a filter asks for: where it holds for attributes, it shares one with them.
use Rattle.std.specs.Prelude.{◌≡◌, ℕ, true, List}
use Rattle.std.specs.Int.{bit_at}
use Rattle.farm_base.specs.declared.Attr.{Attr}
use Rattle.attribute_marks.specs.Marks.{HasMarks, Shares}
use Rattle.plain_filters.specs.Values.{attribute, same}
use Rattle.plain_filters.specs.Filters.{FilterTree, tree_value, tree_holds}

-- where the filter holds, one of these marks is among those of the attributes
abbrev pub AsksFor : ℕ → FilterTree → Type 0
AsksFor asked t = (attrs : List Attr) (marks : ℕ) → HasMarks marks attrs
    → tree_holds attrs t ≡ true → Shares marks asked

-- where the filter holds, this mark is
abbrev pub AsksMark : ℕ → FilterTree → Type 0
AsksMark mark t = (attrs : List Attr) (marks : ℕ) → HasMarks marks attrs
    → tree_holds attrs t ≡ true → bit_at marks mark ≡ 1

-- where the attribute of this name equals the filter's value, this mark is
abbrev pub EqualAsks : ℕ → List ℕ → FilterTree → Type 0
EqualAsks mark name t = (attrs : List Attr) (marks : ℕ) → HasMarks marks attrs
    → same (attribute name attrs) (tree_value attrs t) ≡ true → bit_at marks mark ≡ 1
