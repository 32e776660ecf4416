use Rattle.std.proofs.Common.{◌≡◌, ◌+◌, length}
use Rattle.turn_cell.specs.SeatStates.{IsSeatOf, SameSeat}
use Rattle.farm_trials.proofs.counter.take_turns.Given as goal

abbrev pub invariant-loop : goal.invariant-loop
invariant-loop g l = IsSeatOf l.cell l.seat × SameSeat l.initial.seat l.seat × (length l.seat.mine ≡ length l.initial.seat.mine + l.counter)
