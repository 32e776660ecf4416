use Rattle.std.proofs.Common.{◌-◌}
use Rattle.plain_shapes.specs.Blending.{blend}
use Rattle.tiled_image.proofs.JoinedSteps.{Reached}
use Rattle.tiled_image.proofs.tiled_image.TiledImage.blend_run.Given as goal

abbrev pub invariant-loop-from : goal.invariant-loop-from
invariant-loop-from l =
    Reached (blend l.c l.opacity) l.j l.start l.from l.end l.self-inside.grid.shift l.self-inside.grid.across l.fn.self l.self-inside.texts

abbrev pub decreases-loop-from : goal.decreases-loop-from
decreases-loop-from l = l.end - l.from
