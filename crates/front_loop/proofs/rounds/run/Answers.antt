use Rattle.std.proofs.Common.{◌∙◌, subst, arith}
use Rattle.front_loop.specs.inner.Stages.{Goes}
use Rattle.front_loop.proofs.Seating.{same_trans}
use Rattle.front_loop.proofs.rounds.run.Goals as goal

pub round-requires-clause-seat : goal.round-requires-clause-seat
round-requires-clause-seat g c = c.loop.invariant.seat.seat

pub round-requires-clause-number : goal.round-requires-clause-number
round-requires-clause-number g c = c.loop.invariant.seat.number ∙ c.requires.number

pub round-requires-clause-ready : goal.round-requires-clause-ready
round-requires-clause-ready g c = (c.requires.ready.0, c.loop.invariant.goes c.requires.ready.0 c.requires.ready.1)

pub loop-preserved : goal.loop-preserved
loop-preserved g c = record {
  seat = same_trans (g.M.Farm.seats c.args.work.now.farm.now) c.args.seat.now c.loop.seat c.round.new.seat c.loop.invariant.seat c.round.ensures.seat;
  count = let a = c.loop.invariant.count in
      let b = c.round.ensures.count in
      omega (arith, a, b);
  goes = λ start h.
      subst (Goes (g.F.Front.rules c.args.work.now.front.now (g.M.Farm.map_at c.args.work.now.farm.now)) g.F.Front.knows start _) c.in_default-end.is
      (c.in-Ok.ensures.goes start (c.loop.invariant.goes start h));
}

pub returns-in-Some-end-clause-goes : goal.returns-in-Some-end-clause-goes
returns-in-Some-end-clause-goes g c = λ start h.
    subst (Goes (g.F.Front.rules c.args.work.now.front.now (g.M.Farm.map_at c.args.work.now.farm.now)) g.F.Front.knows start _) c.in-Some-end.is
    (c.in-Ok.ensures.goes start (c.loop.invariant.goes start h))
