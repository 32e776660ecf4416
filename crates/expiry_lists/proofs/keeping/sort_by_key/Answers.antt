use Rattle.std.proofs.Common.{ℕ, ◌+◌, sym, ◌∙◌, arith, rules}
use Rattle.std.specs.Prelude.{slice_index_or}
use Rattle.std.proofs.lemmas.List.Sorted.{answers_always}
use Rattle.farm_history.specs.declared.keys.Kept.{Kept}
use Rattle.expiry_lists.proofs.Saving.{before_key}
use Rattle.expiry_lists.proofs.keeping.sort_by_key.Goals as goal

pub returns-clause-sorted : goal.returns-clause-sorted
returns-clause-sorted c = λ k d within.
    let key : Kept → ℕ × ℕ × ℕ × ℕ = λ x. (x.key.map, x.key.meta.z, x.key.meta.x, x.key.meta.y) in
    let sorted = c.sort_unstable_by_key.ensures.sorted key (answers_always _ _ _ (λ f a r g h. search rules)) k d (omega arith) within in
    let items = c.sort_unstable_by_key.new.self.items in
    sym (before_key (slice_index_or items (k + 1) d).key (slice_index_or items k d).key) ∙ sorted
