use Rattle.std.proofs.Common.{take, All}
use Rattle.farm_plan.specs.Plans.{IsRanged}
use Rattle.render_jobs.proofs.shares.know_maps.Given as goal

abbrev pub invariant-loop-map : goal.invariant-loop-map
invariant-loop-map l = All (λ m. IsRanged m.style) (take l.map-index l.maps)
