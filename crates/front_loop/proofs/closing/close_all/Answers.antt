use Rattle.std.proofs.Common.{List, subst}
use Rattle.farm_history.specs.Lists.{Each}
use Rattle.front_loop.specs.declared.sessions.Session.{Session}
use Rattle.front_loop.specs.inner.Sessions.{IsLeaving, StaysOn}
use Rattle.front_loop.proofs.Lefts.{over}
use Rattle.front_loop.proofs.closing.close_all.Goals as goal

pub close_one-requires-clause-leaving : goal.close_one-requires-clause-leaving
close_one-requires-clause-leaving g c =
    subst (λ (ss : List (Session g.row.F-ConnState.Denot)). IsLeaving ss c.in-Some.place c.in-Some.conn c.in-Some.why) c.as_slice.ensures.value c.in-Some.ensures.some

pub close_one-requires-clause-ready : goal.close_one-requires-clause-ready
close_one-requires-clause-ready g c =
    let r = c.requires.ready in
    (r.0, (r.1.0, (r.1.1.0, c.loop-place.invariant.goes r.0 r.1.0 r.1.1.0 r.1.1.1)))

pub returns-in_default-close_one-clause-goes : goal.returns-in_default-close_one-clause-goes
returns-in_default-close_one-clause-goes g c = λ e stopped start h. c.in_default-close_one.ensures.goes e stopped start (c.loop-place.invariant.goes e stopped start h)

pub returns-clause-goes : goal.returns-clause-goes
returns-clause-goes g c = λ e stopped start h.
    over (g.F.Front.rules c.args.work.now.front.now (g.M.Farm.map_at c.args.work.now.farm.now)) g.F.Front.knows e stopped start _ (c.loop-place.invariant.goes e stopped start h)
    (subst (λ (ss : List (Session g.row.F-ConnState.Denot)). Each StaysOn ss) c.as_slice.ensures.value c.in_default.ensures.none)
