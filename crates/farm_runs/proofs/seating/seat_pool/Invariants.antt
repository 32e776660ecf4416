-- So many workers have their seats.
use Rattle.std.proofs.Common.{◌≡◌, ◌+◌, ◌≤◌, All, length, vec_len}
use Rattle.std.specs.Vec.{vec_capacity}
use Rattle.farm_runs.specs.Actors.{IsReady}
use Rattle.farm_runs.specs.inner.Chain.{IsStart, Numbered}
use Rattle.farm_runs.proofs.seating.seat_pool.Given as goal

abbrev pub invariant-loop-parker : goal.invariant-loop-parker
invariant-loop-parker g l = IsStart l.farm (length l.pool.items) l.own × (l.worker ≡ length l.pool.items) × (vec_len l.parkers + length l.pool.items ≡ vec_len l.initial.parkers) × (vec_len l.initial.parkers ≤ vec_capacity l.pool)
    × All (λ a. IsReady l.farm a) l.pool.items × Numbered 0 l.pool.items

abbrev pub decreases-loop-parker : goal.decreases-loop-parker
decreases-loop-parker g l = vec_len l.parkers
