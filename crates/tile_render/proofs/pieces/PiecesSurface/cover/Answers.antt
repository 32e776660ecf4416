use Rattle.std.proofs.Common.{◌≡◌, ◌∙◌, sym, ap, arith}
use Rattle.tile_render.specs.declared.pieces.Piece.{Piece}
use Rattle.tile_render.specs.inner.Pieces.{row_of, start_of}
use Rattle.tile_render.proofs.Joining.{shows_more}
use Rattle.tile_render.proofs.pieces.PiecesSurface.cover.Goals as goal

pub returns-in-Ok-clause-bits : goal.returns-in-Ok-clause-bits
returns-in-Ok-clause-bits c start bits s =
    let piece : Piece = c.piece_at-piece.result in
    let place = ap (λ (p : Piece). p.place) c.piece_at-piece.ensures.value in
    let row : row_of piece ≡ c.args.j = omega (arith, place, c.piece_at-piece.ensures.few_cols) in
    let from : start_of piece ≡ c.args.from = omega (arith, place, c.piece_at-piece.ensures.few_cols) in
    shows_more c.args.self.now c.add.new.self bits c.args.j c.args.from c.args.end piece row from (ap (λ (p : Piece). p.end) c.piece_at-piece.ensures.value)
    c.requires.row c.requires.end (omega (arith, c.if-from-end.false)) c.in-Ok.ensures.cols c.in-Ok.ensures.rows
    (λ whole. (sym c.in-Ok.ensures.added.short ∙ whole, c.in-Ok.ensures.added.same, c.in-Ok.ensures.added.inside c.args.self.now.cols c.args.self.now.rows)) s
