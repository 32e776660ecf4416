use Rattle.std.proofs.Common.{ap, ◌∙◌}
use Rattle.turn_cell.specs.SeatStates.{seat_state, joining}
use Rattle.turn_cell.proofs.cell.TurnCell.join.Goals as goal

pub returns-clause-joined : goal.returns-clause-joined
returns-clause-joined g c =
    let v = c.into.inside.place in let w = c.ended.inside.place in
    (ap (λ id. seat_state id c.join.new.into.me.0) c.join.ensures.place.0 ∙ ap (λ m. seat_state v.table_id m.0) c.join.ensures.view)
    ∙ (ap (λ h. joining h (seat_state w.table_id w.me.0)) c.into.view_is ∙ ap (λ h. joining c.args.into.now h) c.ended.view_is)
