use Rattle.std.proofs.Common.{◌≡◌, ◌≤◌, ◌+◌, ◌*◌, ◌-◌, [], length}
use Rattle.farm_saved.specs.Reading.{many, past_in}
use Rattle.farm_saved.proofs.lists.updates.Given as goal

-- what is left, behind those so far, says all
abbrev pub invariant-loop : goal.invariant-loop
invariant-loop l = record {
  told : many (past_in l.short) (l.count - l.counter) l.updates.items l.rest ≡ many (past_in l.short) l.count [] l.bytes;
  left : length l.rest + 8 * length l.updates.items ≤ length l.bytes;
}
