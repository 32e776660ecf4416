use Rattle.std.proofs.Common.{List, ℕ, sym, subst}
use Rattle.reactor_ports.specs.Told.{Hears}
use Rattle.front_loop.proofs.rounds.round.Goals as goal

pub returns-in_default-clause-goes : goal.returns-in_default-clause-goes
returns-in_default-clause-goes g c = λ start h. c.play.ensures.goes start (g.P.Ports.state c.args.ports.now).told
    (record {
      rounds = h.0;
      can = h.1;
      heard = subst (λ (xs : List ℕ). Hears c.next-event.result xs (g.P.Ports.state c.args.ports.now).told (g.P.Ports.state c.next-event.new.self).told) (sym c.as_slice-piece.ensures.value) c.next-event.ensures.told;
    })

pub play-requires-clause-ready : goal.play-requires-clause-ready
play-requires-clause-ready g c =
    let r = c.requires.ready in (
      r.0,
      (g.P.Ports.state c.args.ports.now).told,
      record {
        rounds = r.1.0;
        can = r.1.1;
        heard = subst (λ (xs : List ℕ). Hears c.next-event.result xs (g.P.Ports.state c.args.ports.now).told (g.P.Ports.state c.next-event.new.self).told) (sym c.as_slice-piece.ensures.value) c.next-event.ensures.told;
      },
    )
