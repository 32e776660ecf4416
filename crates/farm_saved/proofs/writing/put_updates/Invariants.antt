use Rattle.std.proofs.Common.{◌≡◌, ◌++◌, drop}
use Rattle.std.specs.List.{flat_map}
use Rattle.farm_saved.specs.Writing.{past_bytes}
use Rattle.farm_saved.proofs.writing.put_updates.Given as goal

abbrev pub invariant-loop-past : goal.invariant-loop-past
invariant-loop-past l = l.out.items ++ flat_map past_bytes (drop l.past-index l.updates) ≡ l.fn.out.items ++ flat_map past_bytes l.updates
