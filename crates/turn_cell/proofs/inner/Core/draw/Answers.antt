use Rattle.std.proofs.Common.{rules, arith, ap, ◌∙◌}
use Rattle.std.proofs.lemmas.List.{nil_from_length}
use Rattle.turn_cell.proofs.Keeps.{draws}
use Rattle.turn_cell.proofs.inner.Core.draw.Goals as goal
use Rattle.turn_cell.proofs.inner.Core.draw.Goals.{then-guess-self, else-guess-self}

pub compare_exchange-found-requires : goal.compare_exchange-found-requires
compare_exchange-found-requires g c = let me = c.loop.invariant.2 in let limited = c.args.self.now.limited in (
  c.loop.invariant.0 ∙ c.requires.place.0,
  search rules,
  draws g.T.StandsFor.stands g.T.StandsFor.lasting c.args.self.now.table.shared.key _ c.loop.place.id c.loop.place.me c.loop.guess c.if-guess-self.next
      (ap (λ m. m.0.about) me ∙ c.requires.place.1)
      (ap (λ m. m.0.tickets) me ∙ nil_from_length _ c.requires.idle.1)
      (ap (λ m. m.0.holds) me ∙ c.requires.idle.2)
      (λ below_limit. elim c.if-guess-self.branch [ then-guess-self w ↦ w.next-is | else-guess-self w ↦ absurd (omega arith) ])
      (λ at_limit. elim c.if-guess-self.branch [ then-guess-self w ↦ absurd (omega arith) | else-guess-self w ↦ w.next-is ]),
)
