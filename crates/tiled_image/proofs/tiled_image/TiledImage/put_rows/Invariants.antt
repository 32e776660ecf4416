use Rattle.std.proofs.Common.{◌≡◌, ◌-◌, ◌++◌, flat_map}
use Rattle.plain_shapes.specs.Ppm.{pixel_bytes}
use Rattle.plain_shapes.specs.inner.Canvas.{cut_rows}
use Rattle.tiled_image.proofs.tiled_image.TiledImage.put_rows.Given as goal

abbrev pub invariant-loop-j : goal.invariant-loop-j
invariant-loop-j l = l.out.items ≡ l.initial.out.items ++ flat_map pixel_bytes (cut_rows l.self.cols l.col l.row l.cols (l.j - l.row) l.self.pixels)
