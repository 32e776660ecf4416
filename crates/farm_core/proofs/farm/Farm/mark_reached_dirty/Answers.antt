-- The drawings under way and the marks that the boxes reach are touched.
use Rattle.std.proofs.Common.{◌++◌, take, drop, length, slice_get, sym, ap, ◌∙◌, subst}
use Rattle.farm_history.specs.declared.keys.Key.{Key}
use Rattle.reach_box.specs.NamedBoxes.{boxes_reach_map}
use Rattle.farm_refinement.specs.Seen.{FarmSeen}
use Rattle.farm_refinement.specs.inner.Events.{dirtied_taken}
use Rattle.farm_core.specs.inner.Renews.{Reaches}
use Rattle.farm_core.proofs.Rooms.{room_touched, touched_back}
use Rattle.farm_core.proofs.Renewing.{reached_told}
use Rattle.farm_plan.specs.Plans.{FarmPlan}
use denote.Param.{param}
use Rattle.farm_core.specs.contracts.farm.Farm as farm
use Rattle.farm_core.proofs.farm.Farm.mark_reached_dirty.Goals as goal

pub invariant_of-self : goal.invariant_of-self
invariant_of-self g c =
    let touched = touched_back (λ (k : Key). boxes_reach_map c.args.boxes.now (slice_get c.setup.result.now.maps k.map) k.meta) c.self.inside.taken.items c.touch_reached.new.taken c.self.inside.taken.len
    (c.touch_reached.ensures ∙ ap (dirtied_taken (λ (k : Key). boxes_reach_map c.args.boxes.now (slice_get c.setup.result.now.maps k.map) k.meta)) c.as_mut_slice.ensures.value) (sym (ap length c.as_mut_slice.ensures.value) ∙ c.as_mut_slice.ensures.len) in
    room_touched _ (λ (k : Key). boxes_reach_map c.args.boxes.now (slice_get c.setup.result.now.maps k.map) k.meta) _ _ _ _ _ _ _ _ c.self.invariant touched

pub returns : goal.returns
returns g c =
    let touched = touched_back (λ (k : Key). boxes_reach_map c.args.boxes.now (slice_get c.setup.result.now.maps k.map) k.meta) c.self.inside.taken.items c.touch_reached.new.taken c.self.inside.taken.len
    (c.touch_reached.ensures ∙ ap (dirtied_taken (λ (k : Key). boxes_reach_map c.args.boxes.now (slice_get c.setup.result.now.maps k.map) k.meta)) c.as_mut_slice.ensures.value) (sym (ap length c.as_mut_slice.ensures.value) ∙ c.as_mut_slice.ensures.len) in
    let ts = take c.self.inside.taken.len (c.touch_reached.new.taken ++ drop (length c.touch_reached.new.taken) c.self.inside.taken.items) in
    let was : FarmSeen g.row.D.Denot = farm.the_view (param 0 g.row.D) c.self.inside in
    subst (λ (f : FarmSeen g.row.D.Denot). Reaches c.args.boxes.now f (record was { taken = ts; marks = c.mark_maps_dirty.new.marks }) c.mark_maps_dirty.result) c.self.view_is
    (reached_told was c.args.boxes.now c.setup.result.now c.maps.result.now ts c.mark_maps_dirty.new.marks c.mark_maps_dirty.result c.setup.ensures (c.maps.ensures ∙ ap (λ (p : FarmPlan). p.maps) c.setup-2.ensures)
    touched c.mark_maps_dirty.ensures.dirties c.mark_maps_dirty.ensures.apart)
