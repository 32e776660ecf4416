use Rattle.std.proofs.Common.{List, sym, subst}
use Rattle.std.specs.Prelude.{All}
use Rattle.tile_render.specs.declared.pieces.Piece.{Piece}
use Rattle.tile_render.specs.inner.Pieces.{IsPiece}
use Rattle.tile_render.proofs.pieces.Pieces.make_room.Goals as goal

pub returns-clause-inside : goal.returns-clause-inside
returns-clause-inside c cols rows all =
    c.in_ok-kept.ensures.inside cols rows (subst (λ (ps : List Piece). All (IsPiece cols rows) ps) (sym c.deref_mut.ensures.value) all)
