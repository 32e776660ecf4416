-- Those so far pass.
use Rattle.std.proofs.Common.{◌≡◌, drop}
use Rattle.render_jobs.specs.Faults.{can_show, first_failing}
use Rattle.render_jobs.specs.inner.Faults.{kept_fault}
use Rattle.render_jobs.specs.declared.faults.ResumeFault.TheVariants.{Kept}
use Rattle.render_jobs.proofs.faults.check_clean.Given as goal

abbrev pub invariant-loop-place : goal.invariant-loop-place
invariant-loop-place l = kept_fault l.setup l.clean ≡ first_failing (λ place x. can_show l.setup x.key) (λ place. Kept place) l.place (drop l.place l.clean)
