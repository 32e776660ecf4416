-- What follows from lists that were read.
use Rattle.std.specs.Prelude.{◌≡◌, ℕ, true, List, [], Option, Some, None, option_map, is_some, refl}
use Rattle.std.specs.List.{list_all}
use Rattle.farm_base.specs.Earlier.{each_after}
use Rattle.plain_filters.specs.declared.expr.Expr.{Expr}
use Rattle.plain_drawing.specs.declared.style.Symbolizer.{Symbolizer}
use Rattle.plain_filters.specs.Filters.{tree_of}
use Rattle.plain_drawing.specs.Styles.{Style, style_has, is_paint}
use Rattle.reading.proofs.Steps.{all_each}
use Rattle.std.proofs.Common.{◌∙◌, sym}

-- lists whose items pass by themselves
pub paints_fit : (xs : List Symbolizer) → each_after (λ before s. is_paint s) [] xs ≡ true → list_all is_paint xs ≡ true
paints_fit xs e = sym (all_each is_paint [] xs) ∙ e

pub names_known : (styles : List Style) (xs : List (List ℕ)) → each_after (λ before name. style_has name styles) [] xs ≡ true
    → list_all (λ name. style_has name styles) xs ≡ true
names_known styles xs e = sym (all_each (λ name. style_has name styles) [] xs) ∙ e

-- a filter is there where its tree is
pub some_tree : (o : Option Expr) → is_some (option_map tree_of o) ≡ is_some o
some_tree None = refl
some_tree (Some e) = refl
