use Rattle.std.proofs.Common.{◌≡◌, drop}
use Rattle.plain_filters.specs.Values.{attribute}
use Rattle.filter_expr.proofs.value.attribute.Given as goal

abbrev pub invariant-loop-attr : goal.invariant-loop-attr
invariant-loop-attr l = attribute l.name (drop l.attr-index l.attrs) ≡ attribute l.name l.attrs
