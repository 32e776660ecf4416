use Rattle.std.proofs.Common.{◌≡◌, ◌+◌, drop}
use Rattle.std.specs.List.{prefix_len}
use Rattle.filter_expr.specs.inner.Runs.{run_test}
use Rattle.filter_expr.proofs.lexer.run_len.Given as goal

abbrev pub invariant-loop-i : goal.invariant-loop-i
invariant-loop-i l = l.i + prefix_len (run_test l.run) (drop l.i l.bytes) ≡ prefix_len (run_test l.run) l.bytes
