-- Those so far pass.
use Rattle.std.proofs.Common.{◌≡◌, ◌+◌, nat_lt, length, drop}
use Rattle.farm_history.specs.Replays.{past_number}
use Rattle.render_jobs.specs.Faults.{first_failing}
use Rattle.render_jobs.specs.inner.Faults.{updates_fault}
use Rattle.render_jobs.specs.declared.faults.ResumeFault.TheVariants.{Number}
use Rattle.render_jobs.proofs.faults.check_updates.Given as goal

abbrev pub invariant-loop-place : goal.invariant-loop-place
invariant-loop-place l = updates_fault l.setup l.fn.styles l.updates ≡ first_failing (λ place c. nat_lt (past_number c) (length l.setup.updates)) (λ place. Number (l.fn.styles + place)) l.place (drop l.place l.updates)
