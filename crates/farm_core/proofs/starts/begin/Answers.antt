use Rattle.farm_core.proofs.Starting.{room_begun}
use Rattle.farm_core.proofs.starts.begin.Goals as goal

pub invariant_of-result : goal.invariant_of-result
invariant_of-result g c = room_begun _ _ _ _ _ _ _ _ c.no_counts.ensures c.requires.plan c.requires.parts
