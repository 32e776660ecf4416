use Rattle.std.proofs.Common.{◌<◌, not, sym, subst}
use Rattle.farm_history.specs.declared.queues.Outcome.{Outcome}
use Rattle.render_queues.specs.Tables.{Tables, after_end}
use Rattle.farm_plan.specs.Spots.{IsKeyOf}
use Rattle.farm_refinement.specs.Seen.{FarmSeen}
use Rattle.farm_core.specs.inner.Rooms.{AreKeysOf}
use Rattle.farm_core.proofs.Rooms.{room_queues, room_stored, stale_each}
use Rattle.farm_core.proofs.farm.Farm.show.Goals as goal

pub invariant_of-self : goal.invariant_of-self
invariant_of-self g c =
    let at = subst (λ (f : FarmSeen g.row.D.Denot). IsKeyOf f.plan c.args.key) (sym c.self.view_is) c.requires.key in
    let more = subst (λ (f : FarmSeen g.row.D.Denot). f.counts.stored < f.counts.turns) (sym c.self.view_is) c.requires.more in
    room_stored _ _ _ _ _ _ _ _
    (room_queues _ _ _ _ _ _ _ _ _ c.self.invariant
    (subst (λ (t : Tables). AreKeysOf c.self.inside.own.plan t) (sym c.end_stored.ensures)
    (stale_each (IsKeyOf c.self.inside.own.plan) (not c.args.touched) (after_end c.self.inside.queues c.args.key Outcome.Done) c.args.key at c.self.invariant.waiting))) more
