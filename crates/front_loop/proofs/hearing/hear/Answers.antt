use Rattle.std.proofs.Common.{◌≡◌, List, subst, false}
use Rattle.std.proofs.lemmas.Result.{MatchResult-weaker}
use Rattle.front_loop.specs.declared.sessions.Session.{Session}
use Rattle.front_loop.specs.Rounds.{has}
use Rattle.front_loop.specs.inner.Sessions.{conns}
use Rattle.front_loop.proofs.Tables.{stands_at, conn_at}
use Rattle.front_loop.proofs.Worlds.{bytes_none, heard_at, worn_at, rest_of_place}
use Rattle.front_loop.proofs.hearing.hear.Goals as goal

pub returns-in_default-clause-goes : goal.returns-in_default-clause-goes
returns-in_default-clause-goes g c = λ o start was m.
    bytes_none (g.F.Front.rules c.args.work.now.front.now (g.M.Farm.map_at c.args.work.now.farm.now)) g.F.Front.knows c.args.conn c.args.piece.now start o.told _ m
    (subst (λ (ss : List (Session g.row.F-ConnState.Denot)). has (conns ss) c.args.conn ≡ false) c.as_slice.ensures.value c.in_default.ensures.none)

pub hear_one-requires-clause-rest : goal.hear_one-requires-clause-rest
hear_one-requires-clause-rest g c =
    rest_of_place (g.F.Front.rules c.args.work.now.front.now (g.M.Farm.map_at c.args.work.now.farm.now)) g.F.Front.knows _ _ _ _ _ c.in-Some.place c.index_mut.result.now c.requires.ready.1.2
    (stands_at c.args.table.now.sessions.items c.as_slice.result.now c.in-Some.place c.index_mut.result.now c.as_slice.ensures.value c.in-Some.ensures.some.0 c.index_mut.ensures.value)

pub returns-clause-goes : goal.returns-clause-goes
returns-clause-goes g c = λ o start was m.
    let R = g.F.Front.rules c.args.work.now.front.now (g.M.Farm.map_at c.args.work.now.farm.now) in
    let seats = g.M.Farm.seats c.args.work.now.farm.now in
    let at = stands_at c.args.table.now.sessions.items c.as_slice.result.now c.in-Some.place c.index_mut.result.now c.as_slice.ensures.value c.in-Some.ensures.some.0 c.index_mut.ensures.value in
    let is = conn_at c.args.table.now.sessions.items c.as_slice.result.now c.in-Some.place c.index_mut.result.now c.args.conn c.as_slice.ensures.value c.in-Some.ensures.some.1 at in
    MatchResult-weaker c.hear_one.result c.hear_one.ensures.heard
    (λ _ h. heard_at R g.F.Front.knows c.args.conn c.args.piece.now start o.told _ c.in-Some.place c.index_mut.result.now c.hear_one.new.session
    (seats.mine c.hear_one.new.seat) c.hear_one.new.answers.outbox m at is h)
    (λ _ h. worn_at R g.F.Front.knows c.args.conn c.args.piece.now start o.told _ c.in-Some.place c.index_mut.result.now (seats.mine c.hear_one.new.seat) m at is h)
