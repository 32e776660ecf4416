-- The old features are looked for in the order of their ids, and then come those that are put.
use Rattle.std.proofs.Common.{◌≡◌, ◌∙◌, ℕ, List, ◌++◌, sym, ap, subst}
use Rattle.std.specs.Prelude.{IsPermutation}
use Rattle.std.proofs.lemmas.Result.{on_ok_weaker}
use Rattle.plain_shapes.specs.Features.{Feature}
use Rattle.plain_shapes.specs.Data.{Change, ids_of}
use Rattle.reach_box.specs.inner.Lookups.{Adds}
use Rattle.reach_box.proofs.Adding.{adds_met}
use Rattle.reach_box.proofs.boxes.add_changed.Goals as goal

pub returns : goal.returns
returns c =
    let change = c.args.change.now in
    let removed : c.as_slice.result.now ≡ change.remove = c.as_slice.ensures.value ∙ ap (λ (ch : Change). ch.remove) c.change.view_is in
    let puts : c.as_slice-puts.result.now ≡ change.put = c.as_slice-puts.ensures.value ∙ ap (λ (ch : Change). ch.put) c.change.view_is in
    let ids : IsPermutation (c.as_slice.result.now ++ ids_of c.as_slice-puts.result.now) c.as_slice-2.result.now =
    subst (λ (xs : List ℕ). IsPermutation (c.as_slice.result.now ++ ids_of c.as_slice-puts.result.now) xs) (sym c.as_slice-2.ensures.value) c.in_ok-ids.ensures in
    let named : IsPermutation (change.remove ++ ids_of change.put) c.as_slice-2.result.now =
    subst (λ (fs : List Feature). IsPermutation (change.remove ++ ids_of fs) c.as_slice-2.result.now) puts
    (subst (λ (xs : List ℕ). IsPermutation (xs ++ ids_of c.as_slice-puts.result.now) c.as_slice-2.result.now) removed ids) in
    on_ok_weaker c.add_new.result
    (λ new. adds_met c.args.layer.now.features change c.as_slice-2.result.now c.args.boxes.now.items c.add_by_ids.new.boxes.items c.add_new.new.boxes.items named c.in_ok-add_by_ids.ensures
    (subst (λ (fs : List Feature). Adds fs c.add_by_ids.new.boxes.items c.add_new.new.boxes.items) puts new))
    c.add_new.ensures
