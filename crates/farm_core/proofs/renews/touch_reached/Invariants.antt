-- Those so far are touched, the others are as they were.
use Rattle.std.proofs.Common.{◌≡◌, ◌++◌, map, take, drop, slice_get}
use Rattle.farm_history.specs.Seen.{overtaken_by}
use Rattle.reach_box.specs.NamedBoxes.{boxes_reach_map}
use Rattle.farm_core.proofs.renews.touch_reached.Given as goal

abbrev pub invariant-loop-one : goal.invariant-loop-one
invariant-loop-one l = l.taken ≡ map (overtaken_by (λ k. boxes_reach_map l.boxes (slice_get l.setup.maps k.map) k.meta)) (take l.one-index l.initial.taken) ++ drop l.one-index l.initial.taken
