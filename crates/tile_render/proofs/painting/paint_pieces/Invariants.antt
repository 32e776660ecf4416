use Rattle.std.proofs.Common.{◌≡◌, Bool}
use Rattle.plain_world.specs.declared.world.Point.{Point}
use Rattle.tile_render.specs.inner.Covers.{Consists}
use Rattle.tile_render.proofs.Joining.{PiecesDone}
use Rattle.tile_render.proofs.Runs.{PaintedTo}
use Rattle.tile_render.proofs.painting.paint_pieces.Given as goal

abbrev pub invariant-loop-k : goal.invariant-loop-k
invariant-loop-k l = record {
  painted : (member : Point → Bool) → Consists l.fn.w l.fn.region member l.fn.pieces
      → PaintedTo l.fn.w l.fn.region member l.fn.paint.colour l.fn.paint.opacity (PiecesDone l.fn.region.cols l.fn.pieces l.k) l.fn.image l.image;
  cols : l.image.cols ≡ l.fn.w.cols;
  rows : l.image.rows ≡ l.fn.w.rows;
}
