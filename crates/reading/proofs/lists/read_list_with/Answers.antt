use Rattle.reading.proofs.Steps.{list_fails}
use Rattle.reading.proofs.lists.read_list_with.Goals as goal

pub returns-in-Err-clause-value : goal.returns-in-Err-clause-value
returns-in-Err-clause-value g c = λ n. list_fails (g.R.ReadKnown.reads c.args.reader.now) c.args.values.now c.loop-value.value-index c.value-item.result
    c.loop-value.read.items c.in-Err.fault _ c.loop-value-test.true c.value-item.is (rw c.as_slice.ensures.value at (c.in-Err.ensures.value n)) c.loop-value.invariant.told
