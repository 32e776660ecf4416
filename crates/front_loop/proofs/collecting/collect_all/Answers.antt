use Rattle.std.proofs.Common.{subst, ◌∙◌}
use Rattle.front_loop.specs.inner.Stages.{CollectsOne}
use Rattle.front_loop.proofs.Seating.{same_trans}
use Rattle.front_loop.proofs.collecting.collect_all.Goals as goal

pub collect_one-requires-clause-seat : goal.collect_one-requires-clause-seat
collect_one-requires-clause-seat g c = c.loop.invariant.seat.seat

pub collect_one-requires-clause-number : goal.collect_one-requires-clause-number
collect_one-requires-clause-number g c = c.loop.invariant.seat.number ∙ c.requires.number

pub collect_one-requires-clause-ready : goal.collect_one-requires-clause-ready
collect_one-requires-clause-ready g c =
    let r = c.requires.ready in
    (r.0, (r.1.0, (r.1.1.0, c.loop.invariant.goes r.0 r.1.0 r.1.1.0 r.1.1.1)))

pub returns-in_default-clause-goes : goal.returns-in_default-clause-goes
returns-in_default-clause-goes g c = λ o e start h. c.in_default.ensures.goes o e start (c.loop.invariant.goes o e start h)

pub loop-preserved : goal.loop-preserved
loop-preserved g c = record {
  seat = same_trans (g.M.Farm.seats c.args.work.now.farm.now) c.args.seat.now c.loop.seat c.collect_one.new.seat c.loop.invariant.seat c.collect_one.ensures.seat;
  goes = λ o e start h.
      subst (CollectsOne (g.F.Front.rules c.args.work.now.front.now (g.M.Farm.map_at c.args.work.now.farm.now)) g.F.Front.knows e start _) c.in-Reply.is (c.in-Ok.ensures.goes o e start (c.loop.invariant.goes o e start h));
}

pub returns-in-Stopped-clause-goes : goal.returns-in-Stopped-clause-goes
returns-in-Stopped-clause-goes g c = λ o e start h.
    subst (CollectsOne (g.F.Front.rules c.args.work.now.front.now (g.M.Farm.map_at c.args.work.now.farm.now)) g.F.Front.knows e start _) c.in-Stopped.is (c.in-Ok.ensures.goes o e start (c.loop.invariant.goes o e start h))

pub returns-in-Empty-clause-goes : goal.returns-in-Empty-clause-goes
returns-in-Empty-clause-goes g c = λ o e start h.
    subst (CollectsOne (g.F.Front.rules c.args.work.now.front.now (g.M.Farm.map_at c.args.work.now.farm.now)) g.F.Front.knows e start _) c.in-Empty.is (c.in-Ok.ensures.goes o e start (c.loop.invariant.goes o e start h))
