use Rattle.stroke_core.proofs.Between.{in_both, plus_there, minus_there, near_tests}
use Rattle.stroke_core.proofs.segments.near_along.Goals as goal

pub returns : goal.returns
returns c p inside first last held =
    let s = c.args.s in
    let tests = near_tests s p c.requires.segment held in
    in_both c.no_more.result c.no_more-2.result c.narrowed.result p.y (c.narrowed.ensures p.y)
    (plus_there s p c.args.first c.beside_at-from.result.plus c.beside_at-from.result.minus c.raised.result _ c.beside_at-from.ensures.plus c.beside_at-from.ensures.minus c.raised.ensures
    first tests.0 (c.no_more.ensures p.y inside.y_fits))
    (minus_there s p c.args.last c.beside_at-to.result.minus c.beside_at-to.result.plus c.raised-2.result _ c.beside_at-to.ensures.minus c.beside_at-to.ensures.plus c.raised-2.ensures
    last tests.1 (c.no_more-2.ensures p.y inside.y_fits))
