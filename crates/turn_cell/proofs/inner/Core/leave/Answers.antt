use Rattle.std.proofs.Common.{rules, sym, subst, ap, ◌∙◌, ◌+◌, ◌%◌, ◌^◌, ◌∷◌, Some}
use mathlib.Core.Option.{none}
use Rattle.atomic_table.specs.Table.{rest, step, Allows}
use Rattle.turn_cell.specs.inner.Cell.{Kept}
use Rattle.turn_cell.specs.inner.Plays.{served}
use Rattle.turn_cell.proofs.Keeps.{serves}
use Rattle.turn_cell.proofs.inner.Core.leave.Goals as goal

pub fetch_add-requires : goal.fetch_add-requires
fetch_add-requires g c =
    let v = c.args.place.now.me.0 in
    let is = c.exchange-old.ensures.3 ∙ ap (λ l. (v, (0, Some c.args.value) ∷ rest l)) c.requires.holds.2 in
    let slots = c.args.self.now.table.shared.table_id.slots in (
      c.exchange-old.ensures.0 ∙ c.requires.place.0,
      search rules,
      subst
          (λ m. Allows (Kept g.T.StandsFor.stands g.T.StandsFor.lasting c.args.self.now.table.shared.key) slots c.exchange-old.new.seat.id m 1 (λ k. (k + 1) % 2 ^ 64) (served (step slots 1 1 0 none) m))
          (sym is)
          (serves g.T.StandsFor.stands g.T.StandsFor.lasting c.args.self.now.table.shared.key slots c.exchange-old.new.seat.id v c.args.value
          c.requires.place.1 c.requires.holds.0 c.requires.holds.1 c.requires.stands c.requires.lasts),
    )
