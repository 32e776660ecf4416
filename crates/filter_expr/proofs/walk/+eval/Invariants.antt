use Rattle.std.proofs.Common.{◌≡◌, drop, map}
use Rattle.std.specs.List.{list_any, list_all}
use Rattle.plain_filters.specs.Values.{truth}
use Rattle.filter_expr.specs.inner.Parts.{valued, sum_part, product_part, sum_value, product_value}
use Rattle.filter_expr.specs.inner.Shown.{plain}
use Rattle.filter_expr.proofs.walk.+eval.Given as goal

abbrev pub invariant-any_of-loop-part : goal.invariant-any_of-loop-part
invariant-any_of-loop-part l = list_any truth (map (valued l.attrs) (drop l.part-index l.parts)) ≡ list_any truth (map (valued l.attrs) l.parts)

abbrev pub invariant-all_of-loop-part : goal.invariant-all_of-loop-part
invariant-all_of-loop-part l = list_all truth (map (valued l.attrs) (drop l.part-index l.parts)) ≡ list_all truth (map (valued l.attrs) l.parts)

abbrev pub invariant-after_sums-loop-later : goal.invariant-after_sums-loop-later
invariant-after_sums-loop-later l =
    sum_value (plain l.v) (map (sum_part l.attrs) (drop l.later-index l.parts)) ≡ sum_value (plain l.initial.v) (map (sum_part l.attrs) l.parts)

abbrev pub invariant-after_products-loop-later : goal.invariant-after_products-loop-later
invariant-after_products-loop-later l =
    product_value (plain l.v) (map (product_part l.attrs) (drop l.later-index l.parts)) ≡ product_value (plain l.initial.v) (map (product_part l.attrs) l.parts)
