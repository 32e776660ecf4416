use Rattle.std.proofs.Common.{subst}
use Rattle.std.specs.Prelude.{IfSome}
use Rattle.farm_plan.specs.Spots.{IsKeyOf}
use Rattle.farm_refinement.specs.Seen.{FarmSeen}
use Rattle.farm_core.proofs.Rooms.{room_take, key_valid}
use Rattle.farm_core.proofs.farm.Farm.next_key.Goals as goal

pub invariant_of-self : goal.invariant_of-self
invariant_of-self g c = rw c.take.ensures.tables (room_take _ _ _ _ _ _ _ _ c.self.invariant)

pub returns-clause-valid : goal.returns-clause-valid
returns-clause-valid g c =
    subst (λ (f : FarmSeen g.row.D.Denot). IfSome c.take.result (IsKeyOf f.plan)) c.self.view_is
    (key_valid c.self.inside.own.plan c.self.inside.queues c.take.result c.self.invariant.waiting c.take.ensures.next)
