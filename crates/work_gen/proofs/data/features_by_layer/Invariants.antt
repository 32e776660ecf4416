use Rattle.std.proofs.Common.{◌≡◌, ◌*◌}
use Rattle.work_gen.specs.Work.{work_features}
use Rattle.work_gen.proofs.data.features_by_layer.Given as goal

abbrev pub invariant-loop-number : goal.invariant-loop-number
invariant-loop-number l = record {
  drawn : l.draws ≡ record { seed = l.seed; made = 4 * l.number };
  land : l.land.items ≡ work_features l.seed 0 l.number;
  roads : l.roads.items ≡ work_features l.seed 1 l.number;
  spots : l.spots.items ≡ work_features l.seed 2 l.number;
}
