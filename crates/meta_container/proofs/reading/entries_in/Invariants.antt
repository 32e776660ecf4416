use Rattle.std.proofs.Common.{◌≡◌, ◌≤◌, length}
use Rattle.meta_container.specs.Reading.{entries_below}
use Rattle.meta_container.proofs.reading.entries_in.Given as goal

abbrev pub invariant-loop-place : goal.invariant-loop-place
invariant-loop-place l = record {
  few : length l.entries.items ≤ l.place;
  made : l.entries.items ≡ entries_below l.bytes l.place;
}
