use Rattle.std.proofs.Common.{◌≡◌, ◌-◌, ◌*◌, ◌/◌, ap, sym, ◌∙◌, arith}
use Rattle.mark_core.proofs.Marks.{circle_is, width_is, width_little}
use Rattle.mark_core.proofs.ellipses.width_at.Goals as goal

pub returns : goal.returns
returns c =
    let high : c.squared-high.result ≡ c.args.b * c.args.b = c.squared-high.ensures.value ∙ ap (λ k. k * k) c.from.ensures in
    let is = width_is c.args.a c.args.b c.args.y c.root.result _ c.requires.some c.requires.within
    (c.scaled.ensures ∙ ap (λ k. c.args.a * c.args.a * k / (c.args.b * c.args.b)) (λ i. high i - c.squared.ensures.value i)) c.root.ensures.is in
    record { is = is; little = width_little c.args.a c.args.b c.args.y c.root.result c.requires.some is }

pub returns-then-a-b : goal.returns-then-a-b
returns-then-a-b c =
    let high = c.args.b * c.args.b - c.args.y * c.args.y in
    let is = width_is c.args.a c.args.b c.args.y c.half_chord.result high c.requires.some c.requires.within (sym (circle_is c.args.a c.args.b high (omega arith) c.requires.some)) c.half_chord.ensures in
    record { is = is; little = width_little c.args.a c.args.b c.args.y c.half_chord.result c.requires.some is }
