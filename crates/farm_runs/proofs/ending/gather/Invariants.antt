-- The workers that were taken from the pool are gathered, the last one first.
use Rattle.std.proofs.Common.{◌≡◌, true, vec_len}
use Rattle.turn_cell.specs.SeatStates.{IsSeatOf, Knows}
use Rattle.farm_runs.proofs.Calls.{Gathering}
use Rattle.farm_runs.proofs.ending.gather.Given as goal

abbrev pub invariant-loop-actor : goal.invariant-loop-actor
invariant-loop-actor g l = Gathering l.farm l.initial.own l.own l.initial.pool.items l.pool.items l.worn × IsSeatOf l.farm l.own × (l.own.first ≡ true) × Knows l.own

abbrev pub decreases-loop-actor : goal.decreases-loop-actor
decreases-loop-actor g l = vec_len l.pool
