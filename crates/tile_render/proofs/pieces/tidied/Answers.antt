use Rattle.std.proofs.Common.{◌∙◌, sym}
use Rattle.std.proofs.lemmas.List.Sorted.{list_any-IsPermutation, All-permutation}
use Rattle.farm_base.proofs.Outcomes.{if_ok}
use Rattle.tile_render.specs.inner.Pieces.{IsPiece, has}
use Rattle.tile_render.proofs.pieces.tidied.Goals as goal

pub returns-clause-same : goal.returns-clause-same
returns-clause-same c =
    if_ok _ _ c.joined.result (λ v same j i. same j i ∙ sym (list_any-IsPermutation (has j i) c.args.pieces.now c.sort.new.pieces c.sort.ensures.same)) c.joined.ensures.same

pub returns-clause-inside : goal.returns-clause-inside
returns-clause-inside c =
    if_ok _ _ c.joined.result (λ v inside cols rows all. inside cols rows (All-permutation (IsPiece cols rows) c.args.pieces.now c.sort.new.pieces c.sort.ensures.same all)) c.joined.ensures.inside
