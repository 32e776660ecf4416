use Rattle.std.proofs.Common.{◌≡◌, take, length}
use Rattle.plain_shapes.specs.inner.Canvas.{painted}
use Rattle.plain_image.proofs.pixels.paint.Given as goal

abbrev pub invariant-loop-k : goal.invariant-loop-k
invariant-loop-k l = record {
  painted : l.pixels ≡ painted l.s l.opacity (take l.k l.covered) l.fn.pixels;
  len : length l.pixels ≡ length l.covered;
}
