use Rattle.std.proofs.Common.{sym, subst}
use Rattle.front_loop.specs.inner.Stages.{Goes}
use Rattle.front_loop.proofs.Goings.{goes_by}
use Rattle.front_loop.proofs.rounds.play.Goals as goal

pub collect_all-requires-clause-ready : goal.collect_all-requires-clause-ready
collect_all-requires-clause-ready g c =
    let r = c.requires.ready in
    (g.P.Ports.state c.take_event.new.ports, (c.args.came.now.event, (r.0, c.in-Ok.ensures.goes r.0 r.1 r.2)))

pub returns-in_default-collect_all-clause-goes : goal.returns-in_default-collect_all-clause-goes
returns-in_default-collect_all-clause-goes g c = λ start was m.
    c.in_default-collect_all.ensures.goes (g.P.Ports.state c.take_event.new.ports) c.args.came.now.event start (c.in-Ok.ensures.goes start was m)

pub offer_all-requires : goal.offer_all-requires
offer_all-requires g c =
    let r = c.requires.ready in
    record {
      ready = (
        c.collect_all.new.seat,
        (c.args.came.now.event, (c.in-Ok-collect_all.stopped, (r.0, c.in-Ok-collect_all.ensures.goes (g.P.Ports.state c.take_event.new.ports) c.args.came.now.event r.0 (c.in-Ok.ensures.goes r.0 r.1 r.2)))),
      );
    }

pub close_all-requires-clause-ready : goal.close_all-requires-clause-ready
close_all-requires-clause-ready g c =
    let r = c.requires.ready in
    let o = c.in-Ok-collect_all.ensures.goes (g.P.Ports.state c.take_event.new.ports) c.args.came.now.event r.0 (c.in-Ok.ensures.goes r.0 r.1 r.2) in
    (c.args.came.now.event, (c.in-Ok-collect_all.stopped, (r.0, c.offer_all.ensures.goes c.collect_all.new.seat c.args.came.now.event c.in-Ok-collect_all.stopped r.0 o)))

pub returns-in_default-close_all-clause-goes : goal.returns-in_default-close_all-clause-goes
returns-in_default-close_all-clause-goes g c = λ start was m.
    let o = c.in-Ok-collect_all.ensures.goes (g.P.Ports.state c.take_event.new.ports) c.args.came.now.event start (c.in-Ok.ensures.goes start was m) in
    c.in_default-close_all.ensures.goes c.args.came.now.event c.in-Ok-collect_all.stopped start (c.offer_all.ensures.goes c.collect_all.new.seat c.args.came.now.event c.in-Ok-collect_all.stopped start o)

pub returns-clause-goes : goal.returns-clause-goes
returns-clause-goes g c = λ start was m.
    let R = g.F.Front.rules c.args.work.now.front.now (g.M.Farm.map_at c.args.work.now.farm.now) in
    let o = c.in-Ok-collect_all.ensures.goes (g.P.Ports.state c.take_event.new.ports) c.args.came.now.event start (c.in-Ok.ensures.goes start was m) in
    let v = c.in-Ok-close_all.ensures.goes c.args.came.now.event c.in-Ok-collect_all.stopped start (c.offer_all.ensures.goes c.collect_all.new.seat c.args.came.now.event c.in-Ok-collect_all.stopped start o) in
    subst (Goes R g.F.Front.knows start _) (sym c.end_after.ensures.end) (goes_by R g.F.Front.knows c.args.came.now.event c.in-Ok-collect_all.stopped start _ v)
