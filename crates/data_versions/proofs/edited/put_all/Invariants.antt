-- The puts that are left do to the edit what all of them do to the one at the start.
use Rattle.std.proofs.Common.{◌≡◌, drop}
use Rattle.plain_shapes.specs.Data.{with_puts}
use Rattle.data_versions.proofs.edited.put_all.Given as goal

abbrev pub invariant-loop-feature : goal.invariant-loop-feature
invariant-loop-feature l = with_puts (drop l.feature-index l.puts) l.edit ≡ with_puts l.puts l.fn.edit
