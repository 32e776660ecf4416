use Rattle.data_versions.proofs.Grids.{seen_more}
use Rattle.data_versions.proofs.sieve.Sieve.of.Goals as goal

pub loop-k-preserved : goal.loop-k-preserved
loop-k-preserved c = record {
  long = c.put.ensures.long;
  each = seen_more c.loop-k.sieve c.put.new.self c.args.features.now c.loop-k.k c.index-features-k.result c.loop-k-test.true c.index-features-k.is c.put.ensures.seen
      c.put.ensures.kept c.loop-k.invariant.each;
}
