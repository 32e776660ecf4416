use Rattle.std.proofs.Common.{◌≡◌, ◌+◌, true, All, vec_len}
use Rattle.turn_cell.specs.SeatStates.{IsSeatOf}
use Rattle.bench_lines.proofs.under_cell.split_all.Given as goal

abbrev pub invariant-loop : goal.invariant-loop
invariant-loop l = IsSeatOf l.cell l.first × (l.first.first ≡ true) × (l.first.splits ≡ l.initial.first.splits + vec_len l.seats) × (l.first.joined ≡ l.initial.first.joined)
    × All (IsSeatOf l.cell) l.seats.items
