use Rattle.std.proofs.Common.{List, sym, subst}
use Rattle.std.specs.Prelude.{All}
use Rattle.farm_base.proofs.Outcomes.{if_ok}
use Rattle.tile_render.specs.declared.pieces.Piece.{Piece}
use Rattle.tile_render.specs.inner.Pieces.{IsPiece}
use Rattle.tile_render.proofs.pieces.in_order.Goals as goal

pub returns-clause-inside : goal.returns-clause-inside
returns-clause-inside c =
    if_ok _ _ c.tidied.result (λ v inside cols rows all. inside cols rows (subst (λ (ps : List Piece). All (IsPiece cols rows) ps) (sym c.deref_mut.ensures.value) all)) c.tidied.ensures.inside
