use Rattle.std.proofs.Common.{◌≡◌, ◌*◌, ◌^◌, ◌≤◌, ap, ◌∙◌, arith}
use Rattle.std.proofs.Math.Nat.{mul-le-mul}
use Rattle.plain_shapes.proofs.Signs.{root_le}
use Rattle.stroke_core.proofs.numbers.reach.Goals as goal

pub returns-clause-small : goal.returns-clause-small
returns-clause-small c =
    let square : c.from-2.result ≡ c.args.half * c.args.half = c.from-2.ensures ∙ c.square.ensures.value ∙ ap (λ k. k * k) c.from.ensures in
    let half : c.from-2.result ≤ 2 ^ 62 = omega (arith, square, mul-le-mul c.requires.half c.requires.half) in
    let long : c.from-3.result ≤ 2 ^ 61 = omega arith in
    root_le c.root.result (2 ^ 62) (omega (arith, c.root.ensures.low, mul-le-mul half long))
