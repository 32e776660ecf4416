use Rattle.tile_render.proofs.Joining.{JoinedTo}
use Rattle.tile_render.proofs.pieces.joined.Given as goal

abbrev pub invariant-loop-k : goal.invariant-loop-k
invariant-loop-k l = JoinedTo l.pieces l.kept.items l.last l.k
