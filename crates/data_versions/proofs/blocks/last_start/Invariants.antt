-- The part sought is not before `low`, and before `high`.
use Rattle.std.proofs.Common.{◌≤◌, ◌<◌, ◌-◌, length, slice_index}
use Rattle.data_versions.proofs.blocks.last_start.Given as goal

abbrev pub invariant-loop-high : goal.invariant-loop-high
invariant-loop-high l = record {
  apart : l.low < l.high;
  bound : l.high ≤ length l.starts;
  begun : slice_index l.starts l.low ≤ l.place;
  next : l.high < length l.starts → l.place < slice_index l.starts l.high;
}

abbrev pub decreases-loop-high : goal.decreases-loop-high
decreases-loop-high l = l.high - l.low
