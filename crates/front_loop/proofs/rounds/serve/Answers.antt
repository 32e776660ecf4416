use Rattle.std.proofs.Common.{refl}
use Rattle.front_loop.proofs.Goings.{begins, handed_back, runs_end, runs_worn}
use Rattle.front_loop.proofs.rounds.serve.Goals as goal

pub run-requires-clause-ready : goal.run-requires-clause-ready
run-requires-clause-ready g c = (
  (g.P.Ports.state c.args.ports.now).told,
  begins (g.F.Front.rules c.args.work.now.front.now (g.M.Farm.map_at c.args.work.now.farm.now)) g.F.Front.knows (g.P.Ports.state c.args.ports.now).told _
      refl c.requires.fresh c.new-table.ensures.sessions c.new-table.ensures.outbox c.new-table.ensures.starved,
)

pub returns-in-Ok-clause-served : goal.returns-in-Ok-clause-served
returns-in-Ok-clause-served g c =
    let seats = g.M.Farm.seats c.args.work.now.farm.now in
    let maps = g.M.Farm.map_at c.args.work.now.farm.now in
    let R = g.F.Front.rules c.args.work.now.front.now maps in
    let start = (g.P.Ports.state c.args.ports.now).told in
    handed_back R g.F.Front.knows start (g.P.Ports.state c.run.new.ports).told (seats.mine c.stop_after-end.new.seat) c.stop_after-end.result c.run.new.table.answers.outbox c.run.new.table.starved
    c.number-front.result (seats.worn c.stop_after-end.new.seat) c.done_by.result (c.number-front.ensures maps) c.done_by.ensures.end c.done_by.ensures.rests c.done_by.ensures.starved
    (runs_end R g.F.Front.knows start _ (seats.mine c.stop_after-end.new.seat) c.in-Ok.end c.stop_after-end.result (seats.worn c.stop_after-end.new.seat) (c.in-Ok.ensures.goes start (begins R g.F.Front.knows start _ refl c.requires.fresh c.new-table.ensures.sessions c.new-table.ensures.outbox c.new-table.ensures.starved))
    c.stop_after-end.ensures.stops)

pub returns-in-Err-clause-served : goal.returns-in-Err-clause-served
returns-in-Err-clause-served g c =
    let seats = g.M.Farm.seats c.args.work.now.farm.now in
    let maps = g.M.Farm.map_at c.args.work.now.farm.now in
    let R = g.F.Front.rules c.args.work.now.front.now maps in
    let start = (g.P.Ports.state c.args.ports.now).told in
    handed_back R g.F.Front.knows start (g.P.Ports.state c.run.new.ports).told (seats.mine c.run.new.seat) _ c.run.new.table.answers.outbox c.run.new.table.starved
    c.number-front.result (seats.worn c.run.new.seat) c.done_by-in-Err.result (c.number-front.ensures maps) c.done_by-in-Err.ensures.end c.done_by-in-Err.ensures.rests c.done_by-in-Err.ensures.starved
    (runs_worn R g.F.Front.knows start (g.P.Ports.state c.run.new.ports).told (seats.mine c.run.new.seat) c.run.new.table.answers.outbox c.run.new.table.starved (seats.worn c.run.new.seat)
    (c.in-Err.ensures.goes start (begins R g.F.Front.knows start _ refl c.requires.fresh c.new-table.ensures.sessions c.new-table.ensures.outbox c.new-table.ensures.starved)) c.in-Err.ensures.worn)
