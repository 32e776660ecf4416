use Rattle.std.proofs.Common.{◌≡◌, ◌++◌, drop}
use Rattle.std.specs.List.{flat_map}
use Rattle.farm_saved.specs.Writing.{kept_bytes}
use Rattle.farm_saved.proofs.writing.put_clean.Given as goal

abbrev pub invariant-loop-kept : goal.invariant-loop-kept
invariant-loop-kept l = l.out.items ++ flat_map kept_bytes (drop l.kept-index l.clean) ≡ l.fn.out.items ++ flat_map kept_bytes l.clean
