use Rattle.std.proofs.Common.{List, length, ◌||◌, ap, sym, subst, ◌∙◌, arith, refl}
use Rattle.std.specs.Prelude.{All}
use Rattle.std.proofs.lemmas.Result.{on_ok_weaker}
use Rattle.tile_render.specs.declared.pieces.Piece.{Piece}
use Rattle.tile_render.specs.inner.Pieces.{IsPiece, covered, has}
use Rattle.tile_render.proofs.Widening.{lent_back}
use Rattle.tile_render.proofs.pieces.Pieces.add.Goals as goal

pub returns-then-widen-clause-added : goal.returns-then-widen-clause-added
returns-then-widen-clause-added c =
    let back = lent_back c.widen.new.pieces c.args.self.now.list.items _ (c.widen.ensures.count ∙ ap length c.deref_mut.ensures.value) (omega arith) in
    record {
      same = λ j i.
          ap (λ ps. covered ps j i) back ∙ c.widen.ensures.same c.if-widen.true j i
          ∙ ap (λ ps. covered ps j i || has j i c.args.piece) c.deref_mut.ensures.value;
      inside = λ cols rows all piece.
          subst (λ (ps : List Piece). All (IsPiece cols rows) ps) (sym back)
          (c.widen.ensures.inside cols rows (subst (λ (ps : List Piece). All (IsPiece cols rows) ps) (sym c.deref_mut.ensures.value) all) piece);
      short = refl;
    }

pub returns-clause-added : goal.returns-clause-added
returns-clause-added c =
    let back = lent_back c.widen.new.pieces c.args.self.now.list.items _ (c.widen.ensures.count ∙ ap length c.deref_mut.ensures.value) (omega arith) in
    let same = back ∙ c.widen.ensures.others c.if-widen.false ∙ c.deref_mut.ensures.value in
    on_ok_weaker c.append.result (λ added. record {
      same = λ j i. added.same j i ∙ ap (λ ps. covered ps j i || has j i c.args.piece) same;
      inside = λ cols rows all. added.inside cols rows (subst (λ (ps : List Piece). All (IsPiece cols rows) ps) (sym same) all);
      short = added.short;
    }) c.append.ensures.added
