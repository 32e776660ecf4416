use Rattle.render_workers.proofs.Rounds.{drew, drew_worn, found_nothing, found_stopped, found_worn}
use Rattle.render_workers.proofs.worker.round.Goals as goal

pub returns-in_default-clause-entries : goal.returns-in_default-clause-entries
returns-in_default-clause-entries g c = found_worn c.args.worker c.args.seat.now c.claim.new.seat c.in_default.ensures.turn

pub returns-in-Idle-clause-entries : goal.returns-in-Idle-clause-entries
returns-in-Idle-clause-entries g c = found_nothing c.args.worker c.args.seat.now c.claim.new.seat _ c.in-Idle.is c.in-Ok.ensures.turn

pub returns-in-Stopped-clause-entries : goal.returns-in-Stopped-clause-entries
returns-in-Stopped-clause-entries g c = found_stopped c.args.worker c.args.seat.now c.claim.new.seat _ c.in-Stopped.is c.in-Ok.ensures.turn

pub returns-in_default-finished-clause-entries : goal.returns-in_default-finished-clause-entries
returns-in_default-finished-clause-entries g c = drew_worn c.args.worker c.args.seat.now c.claim.new.seat c.finish-finished.new.seat _ c.in-Job.job c.in-Job.is c.in-Ok.ensures.turn c.in_default-finished.ensures.turn

pub returns-in-Ok-finished-clause-entries : goal.returns-in-Ok-finished-clause-entries
returns-in-Ok-finished-clause-entries g c = drew c.args.worker c.args.seat.now c.claim.new.seat c.finish-finished.new.seat _ c.in-Job.job _ _ c.in-Job.is c.in-Ok.ensures.turn c.in-Ok-finished.ensures.turn
