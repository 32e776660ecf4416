use Rattle.std.proofs.Common.{◌≡◌, ◌+◌, ◌-◌, ◌*◌, ◌≤◌, max, true}
use Rattle.plain_image.specs.Runs.{run_changed}
use Rattle.plain_image.proofs.surfaces.MaskSurface.cover.Given as goal

abbrev pub invariant-loop-i : goal.invariant-loop-i
invariant-loop-i l = record {
  is : l.self ≡ record l.fn.self { bits = run_changed (λ _. true) (l.fn.j * l.fn.self.cols + l.fn.from) (l.i - l.fn.from) l.fn.self.bits };
  from : l.fn.from ≤ l.i;
  within : l.i ≤ max l.fn.from l.fn.end;
}
