use Rattle.std.proofs.Common.{◌≡◌, [], take}
use Rattle.render_queues.specs.inner.Entries.{keys_in}
use Rattle.render_queues.proofs.waiting.Waiting.first.Given as goal

abbrev pub invariant-loop-place : goal.invariant-loop-place
invariant-loop-place l = keys_in l.fn.queue (take l.place l.self-inside.live.entries) ≡ []
