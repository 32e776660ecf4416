use Rattle.std.proofs.Common.{length, sym, ap, ◌∙◌}
use Rattle.farm_history.specs.Plans.{overlaps}
use Rattle.farm_refinement.specs.inner.Events.{dirtied_taken}
use Rattle.farm_core.proofs.Rooms.{room_touched, touched_back}
use Rattle.farm_core.proofs.farm.Farm.mark_tile_dirty.Goals as goal

pub invariant_of-self : goal.invariant_of-self
invariant_of-self g c =
    let touched = touched_back (overlaps c.args.tile) c.self.inside.taken.items c.touch_tile.new.taken c.self.inside.taken.len
    (c.touch_tile.ensures ∙ ap (dirtied_taken (overlaps c.args.tile)) c.as_mut_slice.ensures.value) (sym (ap length c.as_mut_slice.ensures.value) ∙ c.as_mut_slice.ensures.len) in
    room_touched _ (overlaps c.args.tile) _ _ _ _ _ _ _ _ c.self.invariant touched
