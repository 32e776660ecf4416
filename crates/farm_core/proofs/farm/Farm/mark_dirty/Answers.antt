use Rattle.std.proofs.Common.{length, sym, ap, ◌∙◌, subst}
use Rattle.farm_history.specs.Plans.{same_key}
use Rattle.render_queues.specs.Tables.{Tables}
use Rattle.farm_plan.specs.Spots.{IsKeyOf}
use Rattle.farm_refinement.specs.Seen.{FarmSeen}
use Rattle.farm_refinement.specs.inner.Events.{dirtied_taken}
use Rattle.farm_core.specs.inner.Rooms.{AreKeysOf}
use Rattle.farm_core.proofs.Rooms.{room_queues, room_touched, touched_back, marked_each}
use Rattle.farm_core.proofs.farm.Farm.mark_dirty.Goals as goal

pub invariant_of-self : goal.invariant_of-self
invariant_of-self g c =
    let at = subst (λ (f : FarmSeen g.row.D.Denot). IsKeyOf f.plan c.args.key) (sym c.self.view_is) c.requires in
    let touched = touched_back (same_key c.args.key) c.self.inside.taken.items c.touch_key.new.taken c.self.inside.taken.len
    (c.touch_key.ensures ∙ ap (dirtied_taken (same_key c.args.key)) c.as_mut_slice.ensures.value) (sym (ap length c.as_mut_slice.ensures.value) ∙ c.as_mut_slice.ensures.len) in
    room_touched _ (same_key c.args.key) _ _ _ _ _ _ _ _
    (room_queues _ _ _ _ _ _ _ _ _ c.self.invariant
    (subst (λ (t : Tables). AreKeysOf c.self.inside.own.plan t) (sym c.place_dirty.ensures)
    (marked_each (IsKeyOf c.self.inside.own.plan) c.self.inside.queues c.args.key at c.self.invariant.waiting))) touched
