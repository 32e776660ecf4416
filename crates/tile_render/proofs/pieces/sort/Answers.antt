use Rattle.std.proofs.Common.{rules}
use Rattle.std.proofs.lemmas.List.Sorted.{IsNonDecreasingBy-from_sort, answers_always}
use Rattle.tile_render.specs.inner.Pieces.{place}
use Rattle.tile_render.proofs.pieces.sort.Goals as goal

pub returns-clause-order : goal.returns-clause-order
returns-clause-order c =
    IsNonDecreasingBy-from_sort place _ (c.sort_unstable_by_key.ensures.sorted place (answers_always _ _ _ (λ f a r g h. search rules)))
