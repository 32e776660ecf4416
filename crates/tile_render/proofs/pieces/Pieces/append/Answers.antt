use Rattle.std.proofs.Common.{[], ◌∷◌, ◌∙◌, ◌||◌, List, ap, sym, subst}
use Rattle.std.specs.Prelude.{All}
use Rattle.std.proofs.Math.Bool.{or-false}
use Rattle.std.proofs.lemmas.List.Elements.{All-push}
use Rattle.std.proofs.lemmas.List.Folds.{list_any-append}
use Rattle.tile_render.specs.declared.pieces.Piece.{Piece}
use Rattle.tile_render.specs.inner.Pieces.{IsPiece, covered, has}
use Rattle.tile_render.proofs.pieces.Pieces.append.Goals as goal

pub returns-clause-added : goal.returns-clause-added
returns-clause-added c =
    let piece = c.args.piece in
    let roomy = c.make_room.new.self.list.items in
    record {
      same = λ j i.
          ap (λ ps. covered ps j i) c.in_ok-push.ensures.items ∙ list_any-append (has j i) roomy (piece ∷ []) ∙ ap (λ t. covered roomy j i || t) (or-false (has j i piece))
          ∙ ap (λ t. t || has j i piece) (c.in_ok-make_room.ensures.same j i);
      inside = λ cols rows all piece.
          subst (λ (ps : List Piece). All (IsPiece cols rows) ps) (sym c.in_ok-push.ensures.items)
          (All-push (IsPiece cols rows) roomy c.args.piece (c.in_ok-make_room.ensures.inside cols rows all) piece);
      short = c.in_ok-make_room.ensures.short;
    }
