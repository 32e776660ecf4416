use Rattle.std.proofs.Common.{◌+◌, ◌++◌, length, drop, ap, ◌∙◌, arith}
use Rattle.data_versions.specs.inner.Building.{built}
use Rattle.data_versions.specs.inner.Edits.{edited}
use Rattle.data_versions.proofs.Merged.{feature_first, features_end}
use Rattle.data_versions.proofs.edits.ChunkEditable.edit_into.Goals as goal

pub overflow_add-number : goal.overflow_add-number
overflow_add-number c = omega (arith, c.requires, c.loop-feature.invariant.number, c.loop-feature-test.true, ap length c.features-feature-items.ensures.value)

pub loop-feature-preserved : goal.loop-feature-preserved
loop-feature-preserved c =
    let features = c.features-feature-items.result.now in
    let i = c.loop-feature.feature-index in record {
      number = omega (arith, c.loop-feature.invariant.number);
      same = λ more. c.loop-feature.invariant.same more
          ∙ ap (λ fs. built c.loop-feature.builder ++ edited c.loop-feature.number c.loop-feature.edits fs) (feature_first features more i c.feature-item.result c.loop-feature-test.true c.feature-item.is)
          ∙ c.in_ok-edit_feature.ensures (drop (i + 1) features ++ more);
    }

pub returns : goal.returns
returns c = λ more.
    features_end c.features-feature-items.result.now c.args.self.now more (built c.args.builder.now) (built c.loop-feature.builder) c.args.first c.loop-feature.number
    c.loop-feature.feature-index c.args.edits.now c.loop-feature.edits c.features-feature-items.ensures.value c.loop-feature-test.false c.loop-feature.auto.feature-index-end
    c.loop-feature.invariant.number (c.loop-feature.invariant.same more)
