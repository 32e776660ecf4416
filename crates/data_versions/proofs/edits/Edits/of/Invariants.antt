-- The edits so far, and then those that are left, are all that were put.
use Rattle.std.proofs.Common.{◌≡◌, ◌++◌}
use Rattle.data_versions.proofs.edits.Edits.of.Given as goal

abbrev pub invariant-loop-number : goal.invariant-loop-number
invariant-loop-number l = record {
  can : (goal.iterator-loop-number).can_next l.number-iterator;
  ends : (goal.iterator-loop-number).is_finite l.number-iterator;
  same : l.all.items ++ l.number-iterator ≡ l.put.entries;
}
