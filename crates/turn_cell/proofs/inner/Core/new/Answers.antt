use Rattle.std.proofs.Common.{sym, subst, ap, ◌∙◌, ◌++◌, ◌∷◌, [], Some}
use Rattle.atomic_table.specs.Table.{opening}
use Rattle.turn_cell.specs.inner.Cell.{newcomer, Kept}
use Rattle.turn_cell.specs.declared.view.Terms.{Terms}
use Rattle.turn_cell.proofs.Seating.{opens}
use Rattle.turn_cell.proofs.inner.Core.new.Goals as goal

pub new-requires : goal.new-requires
new-requires g c =
    let about : Terms g.row.T.Denot = record { limit = c.args.limit; first = c.of.result } in
    let items = c.push_reserved.ensures.items ∙ ap (λ l. l ++ Some c.args.value ∷ []) c.in-Ok.ensures.items in
    subst (λ l. Kept g.T.StandsFor.stands g.T.StandsFor.lasting about (opening (0 ∷ 0 ∷ 0 ∷ []) l (newcomer about))) (sym items)
    (opens g.T.StandsFor.stands g.T.StandsFor.lasting about c.args.value c.requires.stands (ap g.T.StandsFor.lasting (sym c.of.ensures)) c.requires.limit)
