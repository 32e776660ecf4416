use Rattle.std.proofs.Common.{◌≡◌, ◌≤◌, ◌+◌, ◌*◌, ◌-◌, [], length}
use Rattle.farm_saved.specs.Savings.{IsClean}
use Rattle.farm_saved.specs.Reading.{many, entry_in}
use Rattle.farm_saved.proofs.lists.clean.Given as goal

-- what is left, behind those so far, says all
abbrev pub invariant-loop : goal.invariant-loop
invariant-loop l = record {
  told : many (entry_in l.short l.updates) (l.count - l.counter) l.clean.items l.rest ≡ many (entry_in l.short l.updates) l.count [] l.bytes;
  sound : IsClean l.updates l.clean.items;
  left : length l.rest + 24 * length l.clean.items ≤ length l.bytes;
}
