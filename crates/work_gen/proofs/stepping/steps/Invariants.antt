use Rattle.std.proofs.Common.{◌≡◌, ◌+◌, ◌*◌}
use Rattle.arrayvec.specs.ArrayVec.{array_vec_len}
use Rattle.work_gen.specs.Work.{steps_of}
use Rattle.work_gen.proofs.stepping.steps.Given as goal

abbrev pub invariant-loop-number : goal.invariant-loop-number
invariant-loop-number l = record {
  drawn : l.draws ≡ record { seed = l.seed; made = 4 * l.features + 3 * l.number };
  told : l.steps.items ≡ steps_of l.seed l.features l.number;
  count : array_vec_len l.steps ≡ l.number;
}
