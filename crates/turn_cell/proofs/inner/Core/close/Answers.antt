use Rattle.std.proofs.Common.{refl, sym, subst, ◌∙◌}
use Rattle.std.specs.Option.{IsSome}
use Rattle.std.proofs.lemmas.Option.{same_Some}
use Rattle.turn_cell.specs.SeatStates.{seat_state, Closes}
use Rattle.turn_cell.proofs.Turning.{closed}
use Rattle.turn_cell.proofs.inner.Core.close.Goals as goal

pub unwrap-requires : goal.unwrap-requires
unwrap-requires g c =
    let t = closed g.T.StandsFor.stands g.T.StandsFor.lasting c.args.self.table.shared.key c.args.place.table_id _ _ c.args.place.id c.args.place.me c.take-last.result
    c.close_with-closed.ensures.values.2 c.requires.place.1 c.requires.settled.0 c.requires.first c.take-last.ensures.value in
    subst IsSome (sym t.1) refl

pub returns : goal.returns
returns g c =
    let t = closed g.T.StandsFor.stands g.T.StandsFor.lasting c.args.self.table.shared.key c.args.place.table_id _ _ c.args.place.id c.args.place.me c.take-last.result
    c.close_with-closed.ensures.values.2 c.requires.place.1 c.requires.settled.0 c.requires.first c.take-last.ensures.value in
    subst (λ x. Closes g.T.StandsFor.stands g.T.StandsFor.lasting c.args.self.table.shared.key (seat_state c.args.place.table_id c.args.place.me.0) x) (same_Some _ _ (sym t.1 ∙ c.unwrap.ensures)) t.2
