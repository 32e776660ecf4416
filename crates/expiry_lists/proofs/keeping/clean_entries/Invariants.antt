-- The clean ones of the entries so far.
use Rattle.std.proofs.Common.{◌≡◌, take}
use Rattle.expiry_lists.specs.inner.Keeping.{kept_list}
use Rattle.expiry_lists.proofs.keeping.clean_entries.Given as goal

abbrev pub invariant-loop-i : goal.invariant-loop-i
invariant-loop-i l = record {
  clean : l.clean.items ≡ kept_list (take l.i l.nodes.entries);
}
