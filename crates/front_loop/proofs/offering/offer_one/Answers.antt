use Rattle.std.proofs.Common.{◌∙◌, sym, ap, false}
use Rattle.front_loop.specs.declared.dispositions.Disposition.{Disposition}
use Rattle.front_loop.specs.inner.Stages.{Gives_it}
use Rattle.front_loop.proofs.offering.offer_one.Goals as goal

pub returns-clause-offers : goal.returns-clause-offers
returns-clause-offers g c = Gives_it c.if-not-session.false (sym c.is_kept.ensures ∙ c.if-not-is_kept.false) c.give-gave.result c.is_done-done.result c.give-gave.ensures.gives (c.is_done-done.ensures (g.M.Farm.map_at c.args.work.now.farm.now))
    (ap (λ (f : Disposition). record c.args.session.now { owes = false; disposition = f }) c.disposition_of_offer-session.ensures)
