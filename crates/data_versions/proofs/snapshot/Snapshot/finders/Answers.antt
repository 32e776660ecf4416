use Rattle.std.proofs.Common.{sym, subst, ◌∙◌}
use Rattle.plain_shapes.specs.Data.{IsLayer}
use Rattle.plain_shapes.specs.Features.{Layer}
use Rattle.data_versions.proofs.Named.{shared_valid, shares_more}
use Rattle.data_versions.proofs.snapshot.Snapshot.finders.Goals as goal

pub of-requires : goal.of-requires
of-requires c =
    subst (λ (l : Layer). IsLayer l) (sym c.deref-layer.ensures)
    (shared_valid c.shared-shared.result.now c.loop-layer.layer-index c.layer-item.result c.loop-layer-test.true (rw (← c.shared-shared.ensures.value) at c.shared-shared.ensures.valid.each)
    c.layer-item.is)

pub loop-layer-preserved : goal.loop-layer-preserved
loop-layer-preserved c =
    shares_more c.shared-shared.result.now c.loop-layer.layer-index c.layer-item.result c.loop-layer.finders.items c.push.new.self.items c.of.result
    c.loop-layer-test.true c.layer-item.is c.loop-layer.invariant (c.of.ensures ∙ c.deref-layer.ensures) c.in_ok-push.ensures.items
