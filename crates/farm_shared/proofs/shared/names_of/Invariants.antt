-- As many names as steps.
use Rattle.std.proofs.Common.{◌≡◌, map, take}
use Rattle.farm_shared.proofs.shared.names_of.Given as goal

abbrev pub invariant-loop-place : goal.invariant-loop-place
invariant-loop-place g l = l.names.items ≡ map (λ m. m.name) (take l.place l.farm.plan.maps)
