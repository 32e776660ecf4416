use Rattle.std.proofs.Common.{◌≡◌, ap, sym, ◌∙◌}
use Rattle.std.proofs.lemmas.Result.{IfOk-weaker}
use Rattle.data_versions.specs.inner.Edits.{edited}
use Rattle.data_versions.specs.inner.Parts.{laid}
use Rattle.data_versions.specs.inner.Slots.{standing, SlotsSeen}
use Rattle.data_versions.proofs.Overlaid.{all_edited}
use Rattle.data_versions.proofs.slots.Slots.segments.Goals as goal

pub returns : goal.returns
returns c =
    let features = c.self.inside.layer.now.features in
    IfOk-weaker c.edited_segments.result (λ v. laid v.items ≡ edited 0 c.in_ok-edits.edits c.segments.result.now) (λ v. laid v.items ≡ standing c.args.self.now.slots)
    (λ v e. e ∙ ap (edited 0 c.in_ok-edits.edits) c.segments.ensures ∙ ap (λ es. edited 0 es features) c.in_ok-edits.ensures.all
    ∙ sym (all_edited c.self.inside.put features c.self.inside.count c.self.invariant c.in_ok-edits.ensures.ordered) ∙ ap (λ (t : SlotsSeen). standing t.slots) c.self.view_is) c.edited_segments.ensures
