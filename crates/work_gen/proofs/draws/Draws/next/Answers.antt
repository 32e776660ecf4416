use Rattle.std.proofs.Common.{◌≡◌, ◌%◌, subst}
use Rattle.work_gen.specs.Draws.{Drawing, draw}
use Rattle.work_gen.proofs.DrawTurns.{generator_next, word_drawn}
use Rattle.work_gen.proofs.draws.Draws.next.Goals as goal

pub invariant_of-self : goal.invariant_of-self
invariant_of-self c = generator_next _ _ _ _ c.next_word-word.result c.self.invariant c.next_word-word.ensures

pub returns-clause-value : goal.returns-clause-value
returns-clause-value c =
    subst (λ (d : Drawing). c.next_word-word.result % c.args.bound ≡ draw d.seed d.made c.args.bound) c.self.view_is
    (word_drawn _ _ _ _ _ _ c.self.invariant c.next_word-word.ensures)
