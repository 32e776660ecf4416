use Rattle.std.proofs.Common.{take, All}
use Rattle.farm_plan.specs.Plans.{IsRanged}
use Rattle.render_jobs.proofs.shares.know_restyles.Given as goal

abbrev pub invariant-loop-restyle : goal.invariant-loop-restyle
invariant-loop-restyle l = All (λ r. IsRanged r.style) (take l.restyle-index l.restyles)
