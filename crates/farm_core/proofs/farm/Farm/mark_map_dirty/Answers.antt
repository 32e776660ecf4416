use Rattle.std.proofs.Common.{length, sym, ap, ◌∙◌}
use Rattle.expiry_lists.specs.Marks.{is_of_map}
use Rattle.farm_refinement.specs.inner.Events.{dirtied_taken}
use Rattle.farm_core.proofs.Rooms.{room_touched, touched_back}
use Rattle.farm_core.proofs.farm.Farm.mark_map_dirty.Goals as goal

pub invariant_of-self : goal.invariant_of-self
invariant_of-self g c =
    let touched = touched_back (is_of_map c.args.map) c.self.inside.taken.items c.touch_map.new.taken c.self.inside.taken.len
    (c.touch_map.ensures ∙ ap (dirtied_taken (is_of_map c.args.map)) c.as_mut_slice.ensures.value) (sym (ap length c.as_mut_slice.ensures.value) ∙ c.as_mut_slice.ensures.len) in
    room_touched _ (is_of_map c.args.map) _ _ _ _ _ _ _ _ c.self.invariant touched
