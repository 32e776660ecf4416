use Rattle.std.proofs.Common.{◌≡◌, ◌||◌, sym, ap, subst, ◌∙◌}
use Rattle.turn_cell.specs.SeatStates.{IsSeatOf}
use Rattle.farm_runs.specs.Promise.{is_worker_worn}
use Rattle.farm_runs.proofs.Calls.{gathering_first, gathering_more, last_spent, or_true, or_false}
use Rattle.farm_runs.proofs.ending.gather.Goals.{then-ended_worn, else-ended_worn}
use Rattle.farm_runs.proofs.ending.gather.Goals as goal

pub loop-actor-init : goal.loop-actor-init
loop-actor-init g c = (gathering_first c.args.farm.now c.args.own.now c.args.pool.items c.requires.pool, c.requires.seat, c.requires.first, c.requires.known)

pub join-requires-clause-ended : goal.join-requires-clause-ended
join-requires-clause-ended g c = (last_spent c.args.farm.now c.pop.new.self.items c.in-Some.actor c.loop-actor.pool.items c.in-Some.ensures.items c.loop-actor.invariant.0.spent).seat

pub loop-actor-preserved : goal.loop-actor-preserved
loop-actor-preserved g c =
    let i = c.loop-actor.invariant in
    let or : c.if-ended_worn.worn ≡ (is_worker_worn c.in-Some.actor.end || c.loop-actor.worn) = elim c.if-ended_worn.branch [
      | then-ended_worn w ↦ or_true c.ended_worn.result (is_worker_worn c.in-Some.actor.end) c.loop-actor.worn c.if-ended_worn.worn c.ended_worn.ensures w.if-ended_worn.true (w.worn-is ∙ w.if-ended_worn.true)
      | else-ended_worn w ↦ or_false c.ended_worn.result (is_worker_worn c.in-Some.actor.end) c.loop-actor.worn c.if-ended_worn.worn c.ended_worn.ensures w.if-ended_worn.false w.worn-is
    ] in (
      gathering_more c.args.farm.now c.args.own.now c.loop-actor.own c.join.new.into c.args.pool.items c.loop-actor.pool.items c.pop.new.self.items c.in-Some.actor c.loop-actor.worn c.if-ended_worn.worn i.0 c.in-Some.ensures.items c.join.ensures.joined c.join.ensures.seen.0 or,
      subst (IsSeatOf c.args.farm.now) (sym c.join.ensures.joined) i.1,
      ap (λ s. s.first) c.join.ensures.joined ∙ i.2,
      c.join.ensures.known,
    )
