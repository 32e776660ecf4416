use Rattle.std.proofs.Common.{refl, ap, ◌+◌, ◌/◌, ◌%◌, min, ◌∙◌, arith}
use Rattle.centre_spans.proofs.Edges.{rising_is, falling_is}
use Rattle.centre_spans.proofs.stretches.no_more.Goals as goal

pub returns-then-p-q : goal.returns-then-p-q
returns-then-p-q c v within =
    let h = c.from-rise.result in
    rising_is c.args.p c.args.q v h _ c.if-p-q.true c.from-rise.ensures
    (c.quotient_up-start.ensures ∙ ap (λ n. n / h + min 1 (n % h)) c.saturating_sub.ensures) (omega arith)

pub returns-then-q-p-2 : goal.returns-then-q-p-2
returns-then-q-p-2 c v within =
    falling_is c.args.p c.args.q v c.from-fall.result _ c.if-q-p-2.true c.if-q-p.false c.from-fall.ensures refl (ap (λ n. n + 1) c.quotient_down-end.ensures)
