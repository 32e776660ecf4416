use Rattle.std.proofs.Common.{◌≡◌, ◌+◌, ◌≤◌, length, All}
use Rattle.plain_world.specs.World.{IsTile}
use Rattle.std.specs.Str.Lines.{lines}
use Rattle.reading.specs.Lines.{items_after}
use Rattle.expiry_lists.specs.declared.faults.ListFault.TheVariants.{Line}
use Rattle.expiry_lists.specs.Lists.{list_line, list_in}
use Rattle.expiry_lists.proofs.lists.read_list.Given as goal

-- what is left of the text, after the tiles so far, says all
abbrev pub invariant-loop-line : goal.invariant-loop-line
invariant-loop-line l = record {
  told : items_after list_line Line (l.number + 1) l.tiles.items (lines l.rest) ≡ list_in l.fn.bytes;
  few : l.number ≤ 1000000;
  count : length l.tiles.items ≤ l.number;
  valid : All IsTile l.tiles.items;
}

abbrev pub decreases-loop-line : goal.decreases-loop-line
decreases-loop-line l = length l.rest
