use Rattle.std.proofs.Common.{ap, refl, set}
use Rattle.front_loop.specs.declared.sessions.Session.{Session}
use Rattle.front_loop.specs.inner.Stages.{Marks}
use Rattle.front_loop.proofs.Tables.{stands_at, conn_at}
use Rattle.front_loop.proofs.hearing.mark_at.Goals as goal

pub returns : goal.returns
returns g c =
    let at = stands_at c.args.table.now.sessions.items c.as_slice.result.now c.in-Some.place c.index_mut.result.now c.as_slice.ensures.value c.in-Some.ensures.some.0 c.index_mut.ensures.value in
    Marks c.in-Some.place c.index_mut.result.now at
    (conn_at c.args.table.now.sessions.items c.as_slice.result.now c.in-Some.place c.index_mut.result.now c.args.conn c.as_slice.ensures.value c.in-Some.ensures.some.1 at)
    (ap (λ (s : Session g.row.T.Denot). set c.args.table.now.sessions.items c.in-Some.place s) c.mark.ensures) refl refl
