use Rattle.std.proofs.Common.{sym, subst, Option}
use Rattle.std.specs.Prelude.{IfSome}
use Rattle.farm_history.specs.declared.keys.Key.{Key}
use Rattle.farm_history.specs.Plans.{own_queue}
use Rattle.render_queues.specs.Tables.{Tables}
use Rattle.farm_plan.specs.Spots.{IsKeyOf}
use Rattle.farm_refinement.specs.Seen.{FarmSeen}
use Rattle.farm_core.specs.inner.Asks.{Needs}
use Rattle.farm_core.specs.inner.Rooms.{AreKeysOf}
use Rattle.farm_core.proofs.Rooms.{room_queues, asked_each}
use Rattle.farm_core.proofs.farm.Farm.note_served.Goals as goal

pub invariant_of-self : goal.invariant_of-self
invariant_of-self g c =
    let asked = subst (λ (o : Option Key). IfSome o (λ k. IsKeyOf c.args.self.now.plan k × Needs c.args.self.now.queues (own_queue c.args.cmd) k c.args.answer)) c.in-Some.is c.requires in
    let at = subst (λ (f : FarmSeen g.row.D.Denot). IsKeyOf f.plan c.in-Some.key) (sym c.self.view_is) asked.0 in
    room_queues _ _ _ _ _ _ _ _ _ c.self.invariant
    (subst (λ (t : Tables). AreKeysOf c.self.inside.own.plan t) (sym c.note_answer.ensures)
    (asked_each (IsKeyOf c.self.inside.own.plan) c.self.inside.queues c.own_queue.result c.in-Some.key c.args.conn c.args.answer at c.self.invariant.waiting))
