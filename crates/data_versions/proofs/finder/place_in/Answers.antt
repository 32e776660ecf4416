use Rattle.std.proofs.Common.{rules}
use Rattle.std.proofs.lemmas.List.Sorted.{answers_always}
use Rattle.data_versions.proofs.Ids.{found_at, found_none}
use Rattle.data_versions.proofs.finder.place_in.Goals as goal

pub returns-in-Ok : goal.returns-in-Ok
returns-in-Ok c = λ features table.
    let by_key = c.binary_search_by_key.ensures.position (λ p. p.0) (answers_always _ _ _ (λ f a r g called. search rules)) in
    found_at c.args.table.now features table c.args.id c.in-Ok.at (rw c.in-Ok.is at c.binary_search_by_key.ensures.bound) (rw c.in-Ok.is at by_key)

pub returns-in-Err : goal.returns-in-Err
returns-in-Err c = λ features table.
    let by_key = c.binary_search_by_key.ensures.position (λ p. p.0) (answers_always _ _ _ (λ f a r g called. search rules)) in
    found_none c.args.table.now features table c.args.id c.in-Err.field-0 (rw c.in-Err.is at by_key)
