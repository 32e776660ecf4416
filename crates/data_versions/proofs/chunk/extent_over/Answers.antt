use Rattle.std.proofs.Common.{take, subst, rules}
use Rattle.std.proofs.lemmas.List.Elements.{All-more, All-weaker}
use Rattle.plain_shapes.specs.Features.{Feature}
use Rattle.data_versions.specs.inner.Extents.{IsIn}
use Rattle.data_versions.proofs.chunk.extent_over.Goals as goal

pub loop-feature-preserved : goal.loop-feature-preserved
loop-feature-preserved c =
    let here : IsIn c.with-extent.result c.feature-item.result = c.with-extent.ensures.new c.feature-item.result (search rules) in
    All-more (IsIn c.with-extent.result) c.args.features.now c.loop-feature.feature-index c.feature-item.result c.loop-feature-test.true
    (All-weaker (IsIn c.loop-feature.extent) (IsIn c.with-extent.result) c.with-extent.ensures.old (take c.loop-feature.feature-index c.args.features.now) c.loop-feature.invariant)
    (subst (λ (f : Feature). IsIn c.with-extent.result f) c.feature-item.is here)
