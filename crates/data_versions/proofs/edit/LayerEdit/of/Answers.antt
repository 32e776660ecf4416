use Rattle.std.proofs.Common.{List, length, sym, ap, subst, ◌∙◌, arith}
use Rattle.std.specs.Prelude.{Option}
use Rattle.plain_shapes.specs.Features.{Feature}
use Rattle.data_versions.specs.inner.Slots.{standing, KnowsPlaces}
use Rattle.data_versions.proofs.Old.{whole_stands, knows_first}
use Rattle.data_versions.proofs.edit.LayerEdit.of.Goals as goal

pub invariant_of-result : goal.invariant_of-result
invariant_of-result c =
    let features = c.args.layer.now.features in
    rw c.of.ensures (
      subst (λ (ss : List (Option Feature)). KnowsPlaces c.new.result features ss) (sym c.of-2.ensures.slots) (knows_first c.new.result features c.new.ensures.empty c.requires.distinct),
      c.len.ensures ∙ sym (ap (λ (ss : List (Option Feature)). length (standing ss)) c.of-2.ensures.slots ∙ ap length (whole_stands features)),
      omega (arith, c.len.ensures, c.requires.few),
      c.of-2.ensures.first,
    )

pub returns : goal.returns
returns c = ap standing c.of-2.ensures.slots ∙ whole_stands c.args.layer.now.features
