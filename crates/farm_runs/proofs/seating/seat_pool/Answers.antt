use Rattle.std.proofs.Common.{refl, None, arith}
use Rattle.farm_runs.proofs.Calls.{pool_more}
use Rattle.farm_runs.proofs.seating.seat_pool.Goals as goal

pub loop-parker-preserved : goal.loop-parker-preserved
loop-parker-preserved g c =
    let i = c.loop-parker.invariant in
    let more = pool_more c.args.farm.now c.loop-parker.own c.take_seat-seat.new.own c.loop-parker.pool.items c.push.new.self.items (record { worker = c.loop-parker.worker; seat = c.take_seat-seat.result; parker = c.in-Some.parker; end = None })
    i.0 i.4 i.5 c.take_seat-seat.ensures.own c.take_seat-seat.ensures.new i.1 refl c.in-Ok.ensures.items in
    let long = more.1 in
    let counted = i.1 in
    let all = i.2 in
    let popped = c.in-Some.ensures.cases in
    let room = i.3 in
    let kept = c.in-Ok.ensures.capacity in
    (more.0, omega arith, omega arith, omega arith, more.2, more.3)
