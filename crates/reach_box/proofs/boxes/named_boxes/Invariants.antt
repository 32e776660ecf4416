use Rattle.std.proofs.Common.{◌≡◌, take, flat_map, []}
use Rattle.farm_plan.specs.Drawings.{features_in}
use Rattle.reach_box.specs.inner.Lookups.{Adds, met_by}
use Rattle.reach_box.proofs.boxes.named_boxes.Given as goal

abbrev pub invariant-loop-change : goal.invariant-loop-change
invariant-loop-change l = record {
  added : Adds (flat_map (λ c. met_by (features_in l.snapshot c.layer) c) (take l.change-index l.change-items)) [] l.boxes.items;
  layers : l.layers.items ≡ l.snapshot;
}
