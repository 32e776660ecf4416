use Rattle.std.proofs.Common.{◌≡◌, ◌+◌, ◌-◌, ◌*◌, ◌≤◌, ◌++◌, flat_map, take, drop}
use Rattle.plain_shapes.specs.Ppm.{pixel_bytes}
use Rattle.tiled_image.proofs.tiled_image.TiledImage.put_row.Given as goal

abbrev pub invariant-loop-from : goal.invariant-loop-from
invariant-loop-from l =
    (l.start ≤ l.from) × (l.from ≤ l.end)
    × (l.out.items ≡ l.initial.out.items ++ flat_map pixel_bytes (take (l.from - l.start) (drop (l.j * l.self.cols + l.start) l.self.pixels)))

abbrev pub decreases-loop-from : goal.decreases-loop-from
decreases-loop-from l = l.end - l.from
