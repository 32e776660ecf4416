use Rattle.std.proofs.Common.{sym, subst, ap, ◌∙◌}
use Rattle.turn_cell.specs.SeatStates.{Made, SeatState}
use Rattle.turn_cell.specs.inner.Plays.{counting}
use Rattle.turn_cell.proofs.Turning.{took}
use Rattle.turn_cell.proofs.cell.TurnCell.turn.Goals as goal

pub returns-clause-turn : goal.returns-clause-turn
returns-clause-turn g c =
    let about = c.self.inside.core.table.shared.key in
    let seat = c.seat.inside.place in
    let out = c.enter-value.new.place.me in
    let need = g.C.Call.need c.args.call in
    let needs = subst (λ (s : SeatState g.row.T.Denot g.row.T-Entry.Denot). need s.number s.seen (g.T.StandsFor.lasting about.first.value)) (sym c.seat.view_is)
    (subst (λ (m : Made g.row.T.Denot). need c.args.seat.now.number c.args.seat.now.seen (g.T.StandsFor.lasting m.about.first.value)) (sym c.self.view_is) c.requires.need) in
    rw (← c.self.view_is, ← c.seat.view_is)
    (took g.T.StandsFor.stands g.T.StandsFor.lasting about need (g.C.Call.entry c.args.call) (g.C.Call.promise c.args.call) c.run-answer.result
    seat.table_id c.leave.new.place.table_id seat.me c.draw.new.place.me out c.count.new.place.me c.leave.new.place.me c.in_ok-ticket.ticket c.enter-value.result c.run-answer.new.value
    needs c.in_ok-ticket.ensures.drew c.enter-value.ensures.entered c.run-answer.ensures
    (c.count.ensures.counted ∙ ap (λ call. (counting out.0 (g.C.Call.entry call c.run-answer.result), out.1)) c.of-asked.ensures)
    c.leave.ensures.left)
