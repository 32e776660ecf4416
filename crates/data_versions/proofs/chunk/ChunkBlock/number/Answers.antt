use Rattle.std.proofs.Common.{length, take, ap, arith}
use Rattle.std.proofs.lemmas.List.{length-take-le}
use Rattle.data_versions.proofs.Ids.{numbered_long, numbered_more}
use Rattle.data_versions.proofs.chunk.ChunkBlock.number.Goals as goal

pub overflow_cast-place : goal.overflow_cast-place
overflow_cast-place c =
    let features = c.features-feature-items.result.now in
    let so_far = take c.loop-feature.feature-index features in
    omega (
      arith,
      c.requires,
      ap length c.features-feature-items.ensures.value,
      length-take-le c.loop-feature.feature-index features (omega (arith, c.loop-feature-test.true)),
      c.loop-feature-test.true,
      c.loop-feature.pairs.ok,
      c.len-place.ensures,
      numbered_long c.loop-feature.pairs.items c.args.pairs.now.items so_far c.loop-feature.invariant,
    )

pub loop-feature-preserved : goal.loop-feature-preserved
loop-feature-preserved c =
    numbered_more c.loop-feature.pairs.items c.push.new.self.items c.args.pairs.now.items c.features-feature-items.result.now c.loop-feature.feature-index c.len-place.result
    c.feature-item.result c.loop-feature-test.true c.feature-item.is c.loop-feature.invariant (omega (arith, c.loop-feature.pairs.ok, c.len-place.ensures))
    (rw c.id.ensures at c.in_ok-push.ensures.items)
