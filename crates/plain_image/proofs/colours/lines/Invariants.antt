use Rattle.std.proofs.Common.{◌≡◌, ◌*◌, flat_map, replicate}
use Rattle.plain_shapes.specs.Ppm.{pixel_bytes}
use Rattle.plain_image.proofs.colours.lines.Given as goal

abbrev pub invariant-loop-row : goal.invariant-loop-row
invariant-loop-row l = l.out.items ≡ flat_map pixel_bytes (replicate (l._row * l.fn.cols) l.fn.c)
