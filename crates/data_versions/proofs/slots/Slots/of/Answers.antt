use Rattle.std.proofs.Common.{ap, ◌∙◌}
use Rattle.data_versions.specs.inner.Slots.{base_slots, overlaid}
use Rattle.data_versions.proofs.Overlaid.{nothing_put, base_first}
use Rattle.data_versions.proofs.slots.Slots.of.Goals as goal

pub returns-clause-slots : goal.returns-clause-slots
returns-clause-slots c =
    let features = c.args.layer.now.features in
    ap (λ put. overlaid 0 put (base_slots features c.len.result)) c.new.ensures.empty ∙ nothing_put 0 (base_slots features c.len.result) ∙ base_first features c.len.result c.len.ensures
