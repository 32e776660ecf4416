use Rattle.std.proofs.Common.{◌≡◌, ◌+◌, ◌≤◌, ◌++◌, length}
use Rattle.indexmap.specs.IndexMap.{spare}
use Rattle.indexmap.specs.Drain.{drain_rest}
use Rattle.render_queues.specs.inner.Entries.{still_there}
use Rattle.render_queues.proofs.waiting.sift.Given as goal

abbrev pub invariant-loop-key : goal.invariant-loop-key
invariant-loop-key l = record {
  all : l.yielded ++ drain_rest l.key-iterator ≡ l.fn.from.entries;
  moved : l.to.entries ≡ still_there l.yielded;
  room : spare l.fn.to ≤ spare l.to + length (still_there l.yielded);
}
