-- As many maps without a style as steps.
use Rattle.std.proofs.Common.{◌≡◌, ◌≤◌, replicate, None}
use Rattle.std.specs.Vec.{vec_capacity}
use Rattle.farm_core.proofs.starts.no_styles.Given as goal

abbrev pub invariant-loop-map : goal.invariant-loop-map
invariant-loop-map l = (l.styled.items ≡ replicate l._map None) × (l.fn.count ≤ vec_capacity l.styled)
