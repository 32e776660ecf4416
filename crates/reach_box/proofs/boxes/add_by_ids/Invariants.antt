use Rattle.std.proofs.Common.{take, flat_map}
use Rattle.reach_box.specs.inner.Lookups.{Adds, at_id}
use Rattle.reach_box.proofs.boxes.add_by_ids.Given as goal

abbrev pub invariant-loop-id : goal.invariant-loop-id
invariant-loop-id l = Adds (flat_map (at_id l.layer.features) (take l.id-index l.ids)) l.initial.boxes.items l.boxes.items
