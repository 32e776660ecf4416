-- What the seat has gained so far are whole rounds.
use Rattle.render_workers.specs.inner.Nexts.{IsWorking}
use Rattle.render_workers.proofs.worker.work.Given as goal

abbrev pub invariant-loop : goal.invariant-loop
invariant-loop g l = IsWorking l.farm l.fn.worker l.initial.seat l.seat
