-- As many as steps.
use Rattle.std.proofs.Common.{◌≡◌, vec_len}
use Rattle.farm_runs.proofs.seating.parking_for.Given as goal

abbrev pub invariant-loop : goal.invariant-loop
invariant-loop l = vec_len l.parkers ≡ l.counter
