use Rattle.std.proofs.Common.{sym, ◌∙◌}
use Rattle.filter_expr.proofs.Numbers.{named_at}
use Rattle.filter_expr.proofs.numbered.number_of.Goals as goal

pub returns-then-eq : goal.returns-then-eq
returns-then-eq c =
    named_at (λ m. m.now) c.args.names.now c.loop-number.number _ c.args.name.now c.loop-number-test.true (sym c.eq.ensures ∙ c.if-eq.true)
