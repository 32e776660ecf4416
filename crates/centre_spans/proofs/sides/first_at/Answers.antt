use Rattle.std.proofs.Common.{◌≡◌, ◌+◌, ◌*◌, ◌/◌, ap, ◌∙◌, arith}
use Rattle.std.specs.Prelude.{nat_le}
use Rattle.centre_spans.proofs.Quotients.{past_steps}
use Rattle.centre_spans.proofs.sides.first_at.Goals as goal

pub returns-then-steps-from-clause-splits : goal.returns-then-steps-from-clause-splits
returns-then-steps-from-clause-splits c i lt =
    let m = c.from.result + c.from-2.result in
    let e : m + i * c.args.pixel ≡ c.args.start + i * c.args.pixel + c.args.pixel / 2 = omega (arith, c.from.ensures, c.from-2.ensures) in
    past_steps c.args.v m c.args.pixel i c.quotient-steps.result c.requires (omega arith) c.quotient-steps.ensures ∙ ap (nat_le c.args.v) e
