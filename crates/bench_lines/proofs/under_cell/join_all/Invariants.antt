use Rattle.std.proofs.Common.{◌≡◌, ◌+◌, true, All, vec_len, length}
use Rattle.turn_cell.specs.SeatStates.{IsSeatOf}
use Rattle.bench_lines.proofs.under_cell.join_all.Given as goal

abbrev pub invariant-loop-seat : goal.invariant-loop-seat
invariant-loop-seat l = IsSeatOf l.cell l.first × (l.first.first ≡ true) × (l.first.splits ≡ l.initial.first.splits)
    × (length l.first.joined + vec_len l.seats ≡ length l.initial.first.joined + vec_len l.initial.seats) × All (IsSeatOf l.cell) l.seats.items

abbrev pub decreases-loop-seat : goal.decreases-loop-seat
decreases-loop-seat l = vec_len l.seats
