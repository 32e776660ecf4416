use Rattle.std.proofs.Common.{◌≡◌, map, take}
use Rattle.plain_filters.specs.Values.{attribute}
use Rattle.filter_expr.specs.inner.Shown.{plain}
use Rattle.filter_expr.proofs.names.values_of.Given as goal

abbrev pub invariant-loop-name : goal.invariant-loop-name
invariant-loop-name l = map plain l.values.items ≡ map (λ m. attribute m.now l.attrs) (take l.name-index l.names)
