use Rattle.std.proofs.Common.{◌≡◌, ◌*◌, refl, ap, sym, ◌∙◌, arith}
use Rattle.std.specs.Prelude.{unsigned_abs}
use Rattle.centre_spans.specs.Stretches.{gap}
use Rattle.stroke_core.specs.inner.Parts.{on_part}
use Rattle.stroke_core.proofs.Products.{long_is}
use Rattle.stroke_core.proofs.Spans.{box_heights}
use Rattle.stroke_core.proofs.Boxes.{long_square}
use Rattle.stroke_core.proofs.Rounds.{part_round, part_box}
use Rattle.stroke_core.proofs.lines.is_part_known.Goals as goal

pub returns : goal.returns
returns g c all =
    let a = c.args.a in
    let b = c.args.b in
    let long : c.long.result ≡ long_square a b = ap unsigned_abs (c.long.ensures.is ∙ sym (long_is a b (gap b.x a.x) (gap b.y a.y) (long_square a b) refl refl refl)) in
    c.is_known.ensures all (on_part c.args.half a b)
    (λ p inside held. box_heights c.args.half _ a b p c.between-down.result c.from-2.ensures c.between-down.ensures.start c.between-down.ensures.end (part_box c.args.half a b p held))
    (λ p inside held. omega (arith, part_round c.args.half a b p held, long, c.square.ensures.value, ap (λ n. n * n) c.from.ensures))
