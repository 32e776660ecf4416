use Rattle.turn_cell.specs.SeatStates.{IsSeatOf}
use Rattle.bench_lines.proofs.under_cell.take_turns.Given as goal

abbrev pub invariant-loop : goal.invariant-loop
invariant-loop g l = IsSeatOf l.cell l.seat
