use Rattle.std.proofs.Common.{◌≡◌, ◌++◌, flat_map, replicate}
use Rattle.plain_shapes.specs.Ppm.{pixel_bytes}
use Rattle.plain_image.proofs.ready_line.append.Given as goal

abbrev pub invariant-loop-pixel : goal.invariant-loop-pixel
invariant-loop-pixel l = l.out.items ≡ l.initial.out.items ++ flat_map pixel_bytes (replicate l._pixel l.c)
