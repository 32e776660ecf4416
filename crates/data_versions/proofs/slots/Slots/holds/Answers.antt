use Rattle.std.proofs.Common.{◌≡◌, true, Some, None, get_or, ap, sym, ◌∙◌, true≢false}
use Rattle.std.specs.Prelude.{nat_eq, slice_get}
use Rattle.std.proofs.lemmas.Bool.{eq-eqb, eqb-true}
use Rattle.data_versions.specs.inner.Slots.{slot_id, SlotsSeen}
use Rattle.data_versions.proofs.Overlaid.{put_there, none_put}
use Rattle.data_versions.proofs.Standing.{none_some, some_same}
use Rattle.data_versions.proofs.slots.Slots.holds.Goals as goal

pub returns-in-Some-Some-clause-there : goal.returns-in-Some-Some-clause-there
returns-in-Some-Some-clause-there c = λ same.
    let there = put_there c.self.inside.put.entries c.self.inside.layer.now.features c.self.inside.count c.args.i (Some c.in-Some-Some.put) c.self.invariant (sym c.get.ensures.value ∙ sym c.copied.ensures ∙ c.in-Some-Some.is ∙ ap Some c.in-Some-Some.field-0-is) in
    sym (ap (λ (t : SlotsSeen). slot_id (get_or t.slots c.args.i None)) c.self.view_is) ∙ (ap slot_id there ∙ ap Some (sym c.id.ensures ∙ eqb-true c.id.result c.args.id same))

pub returns-in-Some-Some-clause-gone : goal.returns-in-Some-Some-clause-gone
returns-in-Some-Some-clause-gone c = λ other here.
    let there = put_there c.self.inside.put.entries c.self.inside.layer.now.features c.self.inside.count c.args.i (Some c.in-Some-Some.put) c.self.invariant (sym c.get.ensures.value ∙ sym c.copied.ensures ∙ c.in-Some-Some.is ∙ ap Some c.in-Some-Some.field-0-is) in
    let inside = ap (λ (t : SlotsSeen). slot_id (get_or t.slots c.args.i None)) c.self.view_is ∙ here in
    let same : nat_eq c.id.result c.args.id ≡ true = eq-eqb c.id.result c.args.id (c.id.ensures ∙ some_same _ _ (sym (ap slot_id there) ∙ inside)) in
    true≢false (sym same ∙ other)

pub returns-in-Some-None-clause-gone : goal.returns-in-Some-None-clause-gone
returns-in-Some-None-clause-gone c = λ _ here.
    let there = put_there c.self.inside.put.entries c.self.inside.layer.now.features c.self.inside.count c.args.i None c.self.invariant (sym c.get.ensures.value ∙ sym c.copied.ensures ∙ c.in-Some-None.is ∙ ap Some c.in-Some-None.field-0-is) in
    none_some (ap slot_id there) (ap (λ (t : SlotsSeen). slot_id (get_or t.slots c.args.i None)) c.self.view_is ∙ here)

pub returns-in-None-clause-there : goal.returns-in-None-clause-there
returns-in-None-clause-there c = λ _.
    let there = none_put c.self.inside.put.entries c.self.inside.layer.now.features c.self.inside.count c.args.i c.self.invariant (sym c.get.ensures.value ∙ sym c.copied.ensures ∙ c.in-None.is) in
    sym (ap (λ (t : SlotsSeen). slot_id (get_or t.slots c.args.i None)) c.self.view_is)
    ∙ (ap slot_id there ∙ (ap (λ (t : SlotsSeen). slot_id (slice_get t.first c.args.i)) c.self.view_is ∙ c.requires))
