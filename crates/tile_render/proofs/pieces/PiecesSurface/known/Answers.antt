use Rattle.std.proofs.Common.{ap, sym, ◌∙◌, arith}
use Rattle.std.proofs.lemmas.List.Folds.{list_any_at}
use Rattle.tile_render.specs.declared.pieces.Piece.{Piece}
use Rattle.tile_render.specs.inner.Pieces.{has}
use Rattle.tile_render.proofs.Joining.{in_piece}
use Rattle.tile_render.proofs.pieces.PiecesSurface.known.Goals as goal

pub returns : goal.returns
returns c = record {
  covered = λ start bits shown i col from before.
      (let piece : Piece = c.index-piece.result.now in
      (shown.told c.if-self.false).at c.args.j i c.requires.row col
      ∙ list_any_at (has c.args.j i) c.args.self.now.list.items _ piece (omega (arith, c.if-at-len.false, c.len.ensures))
      (sym (ap (has c.args.j i) c.index-piece.ensures)
      ∙ in_piece c.args.j i piece (record { row = omega (arith, c.row_of.ensures, c.if-row_of-j.false); from = omega (arith, c.start_of.ensures); to = omega arith })));
}
