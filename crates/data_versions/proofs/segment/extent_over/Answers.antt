use Rattle.data_versions.specs.inner.Extents.{IsIn}
use Rattle.data_versions.proofs.Laid.{holds_more}
use Rattle.data_versions.proofs.segment.extent_over.Goals as goal

pub loop-chunk-preserved : goal.loop-chunk-preserved
loop-chunk-preserved c =
    holds_more (λ fs. fs) (IsIn c.loop-chunk.extent) (IsIn c.extent.result) (IsIn c.with-extent.result) c.args.chunks.now c.loop-chunk.chunk-index c.chunk-item.result
    c.loop-chunk-test.true c.chunk-item.is c.with-extent.ensures.old c.with-extent.ensures.new c.loop-chunk.invariant c.extent.ensures
