use Rattle.std.proofs.Common.{sym, ◌∙◌, ◌==◌, rules, tests}
use Rattle.std.proofs.lemmas.Iterator.{YieldsList-from_slice}
use Rattle.std.proofs.lemmas.Iterator.Search.{position_from_yields_List}
use Rattle.front_loop.specs.declared.sessions.Session.{Session}
use Rattle.front_loop.proofs.Tables.{unplaced, placed}
use Rattle.front_loop.proofs.sessions.place_of.Goals as goal

pub returns-in-Some-clause-some : goal.returns-in-Some-clause-some
returns-in-Some-clause-some g c =
    let found = position_from_yields_List (λ (s : Session g.row.T.Denot). s.conn == c.args.conn) _ _ c.position.result c.position.ensures.ran (YieldsList-from_slice c.args.sessions.now cc) (λ x b q k. search (rules, tests)) in
    placed c.args.sessions.now c.args.conn c.in-Some.place (sym found ∙ c.in-Some.is)

pub returns-in-None-clause-none : goal.returns-in-None-clause-none
returns-in-None-clause-none g c =
    let found = position_from_yields_List (λ (s : Session g.row.T.Denot). s.conn == c.args.conn) _ _ c.position.result c.position.ensures.ran (YieldsList-from_slice c.args.sessions.now cc) (λ x b q k. search (rules, tests)) in
    unplaced c.args.sessions.now c.args.conn (sym found ∙ c.in-None.is)
