use Rattle.std.proofs.Common.{◌≡◌, ◌≤◌, ◌*◌, take}
use Rattle.load_command.specs.inner.Progress.{byte_sum}
use Rattle.load_command.proofs.totals.sum_of.Given as goal

abbrev pub invariant-loop-byte : goal.invariant-loop-byte
invariant-loop-byte l = (l.sum ≡ byte_sum (take l.byte-index l.bytes)) × (l.sum ≤ 255 * l.byte-index)
