use Rattle.std.proofs.Common.{sym, ◌∙◌, rules, tests}
use Rattle.std.proofs.lemmas.Iterator.{YieldsList-from_slice}
use Rattle.std.proofs.lemmas.Iterator.Search.{position_from_yields_List}
use Rattle.front_loop.specs.inner.Sessions.{leaves}
use Rattle.front_loop.specs.declared.sessions.Session.{Session}
use Rattle.front_loop.proofs.Tables.{first_at, none_passes, stays_not, leaving_is, all_stay}
use Rattle.front_loop.proofs.closing.leaving.Goals as goal

pub unreachable-requires : goal.unreachable-requires
unreachable-requires g c =
    let found = position_from_yields_List (λ (s : Session g.row.T.Denot). leaves s.disposition) _ _ c.position-first.result c.position-first.ensures.ran (YieldsList-from_slice c.args.sessions.now cc) (λ x b q k. search (rules, tests)) in
    let x = first_at (λ (s : Session g.row.T.Denot). leaves s.disposition) c.args.sessions.now c.in-Some.place (sym found ∙ c.in-Some.is) in
    stays_not c.args.sessions.now c.in-Some.place x.0 _ x.1 x.2 c.in-Stays.is

pub returns-in-Leaves-clause-some : goal.returns-in-Leaves-clause-some
returns-in-Leaves-clause-some g c =
    let found = position_from_yields_List (λ (s : Session g.row.T.Denot). leaves s.disposition) _ _ c.position-first.result c.position-first.ensures.ran (YieldsList-from_slice c.args.sessions.now cc) (λ x b q k. search (rules, tests)) in
    let x = first_at (λ (s : Session g.row.T.Denot). leaves s.disposition) c.args.sessions.now c.in-Some.place (sym found ∙ c.in-Some.is) in
    leaving_is c.args.sessions.now c.in-Some.place x.0 c.index-sessions-place.result _ c.in-Leaves.why x.1 c.in-Leaves.is

pub returns-in-None-clause-none : goal.returns-in-None-clause-none
returns-in-None-clause-none g c =
    let found = position_from_yields_List (λ (s : Session g.row.T.Denot). leaves s.disposition) _ _ c.position-first.result c.position-first.ensures.ran (YieldsList-from_slice c.args.sessions.now cc) (λ x b q k. search (rules, tests)) in
    all_stay c.args.sessions.now
    (none_passes (λ (s : Session g.row.T.Denot). leaves s.disposition) c.args.sessions.now (sym found ∙ c.in-None.is))
