use Rattle.std.proofs.Common.{◌≡◌, List, false, ap, rules, subst, ◌∙◌}
use Rattle.front_loop.specs.declared.sessions.Session.{Session}
use Rattle.front_loop.specs.Rounds.{has}
use Rattle.front_loop.specs.inner.Sessions.{conns}
use Rattle.front_loop.proofs.Rests.{none_keyed}
use Rattle.front_loop.proofs.hearing.admit.Goals as goal

pub add-requires : goal.add-requires
add-requires g c = none_keyed c.args.table.now.answers.outbox c.args.conn
    (ap (λ cs. has cs c.args.conn) c.requires ∙ subst (λ (ss : List (Session g.row.F-ConnState.Denot)). has (conns ss) c.args.conn ≡ false) c.as_slice.ensures.value c.in-None.ensures.none)

pub returns-in-Ok : goal.returns-in-Ok
returns-in-Ok g c =
    let begun = c.begin.ensures (g.M.Farm.map_at c.args.work.now.farm.now) in
    search (rules, begun)
