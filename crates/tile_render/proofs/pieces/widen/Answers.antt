use Rattle.std.proofs.Common.{◌∙◌, sym, get_or}
use Rattle.std.proofs.lemmas.List.{get_or_default}
use Rattle.tile_render.specs.declared.pieces.Piece.{Piece}
use Rattle.tile_render.specs.inner.Pieces.{has}
use Rattle.tile_render.proofs.Widening.{both_has, set_any}
use Rattle.tile_render.proofs.pieces.widen.Goals as goal

-- what a place past a list's end is read as
abbrev none : Piece
none = record { place = 0; end = 0 }

pub returns-clause-same : goal.returns-clause-same
returns-clause-same c = λ wide j i.
    let pieces = c.args.pieces.now in
    let there : Piece = get_or pieces c.args.at none in
    let is = get_or_default pieces c.args.at none there c.if-at-pieces.false in
    rw c.both.ensures (set_any (has j i) pieces c.args.at there _ (has j i c.args.piece) c.if-at-pieces.false is (both_has there c.args.piece (sym c.meets.ensures ∙ c.if-not-meets.false) j i))
