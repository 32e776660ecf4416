use Rattle.std.proofs.Common.{◌≡◌, ◌-◌, flat_map}
use Rattle.plain_shapes.specs.Blending.{blend}
use Rattle.plain_shapes.specs.Ppm.{pixel_bytes}
use Rattle.plain_image.specs.PpmText.{colours}
use Rattle.plain_image.specs.Runs.{run_changed}
use Rattle.plain_image.proofs.blending.paint_run.Given as goal

abbrev pub invariant-loop-k : goal.invariant-loop-k
invariant-loop-k l = l.bytes ≡ flat_map pixel_bytes (run_changed (blend l.s l.opacity) l.start (l.k - l.start) (colours l.fn.bytes))
