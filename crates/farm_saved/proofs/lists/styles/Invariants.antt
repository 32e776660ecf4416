use Rattle.std.proofs.Common.{◌≡◌, ◌≤◌, ◌-◌, [], length}
use Rattle.std.specs.Prelude.{All}
use Rattle.farm_saved.specs.Savings.{StyleFits}
use Rattle.farm_saved.specs.Reading.{many, style_number_in}
use Rattle.farm_saved.proofs.lists.styles.Given as goal

-- what is left, behind those so far, says all
abbrev pub invariant-loop : goal.invariant-loop
invariant-loop l = record {
  told : many (style_number_in l.short) (l.count - l.counter) l.styles.items l.rest ≡ many (style_number_in l.short) l.count [] l.bytes;
  fit : All StyleFits l.styles.items;
  count : length l.styles.items ≡ l.counter;
  left : length l.rest ≤ length l.bytes;
}
