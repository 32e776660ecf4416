use Rattle.render_workers.proofs.Rounds.{begins_work, ends, goes_on}
use Rattle.render_workers.proofs.worker.work.Goals as goal

pub loop-init : goal.loop-init
loop-init g c = begins_work _ c.args.worker c.args.seat.now c.requires

pub loop-preserved-in-Again : goal.loop-preserved-in-Again
loop-preserved-in-Again g c = goes_on _ c.args.worker c.args.seat.now c.loop.seat c.round.new.seat c.loop.invariant c.round.ensures.seat c.round.ensures.same c.in-Again.ensures.entries

pub loop-preserved : goal.loop-preserved
loop-preserved g c = goes_on _ c.args.worker c.args.seat.now c.loop.seat c.round.new.seat c.loop.invariant c.round.ensures.seat c.round.ensures.same c.in-Rest.ensures.entries

pub returns-in-End-clause-entries : goal.returns-in-End-clause-entries
returns-in-End-clause-entries g c = ends _ c.args.worker c.in-End.end c.args.seat.now c.loop.seat c.round.new.seat c.loop.invariant c.in-End.ensures.entries
