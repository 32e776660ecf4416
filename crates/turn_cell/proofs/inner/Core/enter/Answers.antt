use Rattle.std.proofs.Common.{rules, sym, ap, ◌∙◌, ◌∷◌, Some}
use Rattle.atomic_table.specs.Table.{rest}
use Rattle.turn_cell.proofs.Keeps.{looks}
use Rattle.turn_cell.proofs.Turning.{entered}
use Rattle.turn_cell.proofs.inner.Core.enter.Goals as goal

pub load-served-requires : goal.load-served-requires
load-served-requires g c = let me = c.loop.invariant.2 in (
  c.loop.invariant.0 ∙ c.requires.place.0,
  search rules,
  looks g.T.StandsFor.stands g.T.StandsFor.lasting c.args.self.now.table.shared.key _ c.loop.place.id c.loop.place.me c.args.ticket
      (ap (λ m. m.0.about) me ∙ c.requires.place.1)
      (ap (λ m. m.0.tickets) me ∙ c.requires.drawn.0)
      (ap (λ m. m.0.holds) me ∙ c.requires.drawn.1),
)

pub exchange-requires : goal.exchange-requires
exchange-requires g c =
    let got = (c.load-served.ensures.2 c.args.ticket (ap (λ m. m.0.tickets) c.loop.invariant.2 ∙ c.requires.drawn.0)).0 c.if-served-ticket.true in
    let has = ap (λ m. m.1) got.2 in
    (c.load-served.ensures.0 ∙ c.loop.invariant.0 ∙ c.requires.place.0, (Some got.0, has ∙ ap (λ l. (0, Some got.0) ∷ rest l) (sym has)))

pub returns-then-served-ticket-clause-entered : goal.returns-then-served-ticket-clause-entered
returns-then-served-ticket-clause-entered g c =
    let got = (c.load-served.ensures.2 c.args.ticket (ap (λ m. m.0.tickets) c.loop.invariant.2 ∙ c.requires.drawn.0)).0 c.if-served-ticket.true in
    entered g.T.StandsFor.stands g.T.StandsFor.lasting c.args.self.now.table.shared.key c.args.place.now.me c.loop.place.me c.load-served.new.seat.me c.exchange.new.seat.me c.exchange.result c.unwrap.result
    c.loop.invariant.2 c.requires.drawn.3 c.requires.place.1 got c.exchange.ensures.2 c.exchange.ensures.3 c.unwrap.ensures
