use Rattle.std.proofs.Common.{◌≡◌, map, take, length}
use Rattle.plain_filters.specs.Values.{attribute}
use Rattle.filter_expr.specs.inner.Shown.{plain}
use Rattle.filter_expr.proofs.names.look_up.Given as goal

abbrev pub invariant-loop-number : goal.invariant-loop-number
invariant-loop-number l = record {
  count : length l.values ≡ length l.names;
  known : map plain (take l.number l.values) ≡ map (λ m. attribute m.now l.attrs) (take l.number l.names);
}
