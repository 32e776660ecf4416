use Rattle.std.proofs.Common.{◌∙◌}
use Rattle.std.specs.Prelude.{nat_le}
use Rattle.stroke_core.proofs.Rowwise.{beside_plus_at, beside_minus_at, raised_at, near_row}
use Rattle.stroke_core.proofs.segments.near.Goals as goal

pub returns : goal.returns
returns c p inside same =
    let s = c.args.s in
    let plus = beside_plus_at s.a s.b p c.args.y c.beside-side.result.plus same c.beside-side.ensures.plus in
    let minus = beside_minus_at s.a s.b p c.args.y c.beside-side.result.minus same c.beside-side.ensures.minus in
    let one = raised_at c.beside-side.result.minus c.raised.result s.reach p.x _ c.raised.ensures minus in
    let two = raised_at c.beside-side.result.plus c.raised-2.result s.reach p.x _ c.raised-2.ensures plus in
    near_row s p _ _ _ c.requires.segment (c.narrowed.ensures p.x)
    (c.no_more.ensures p.x inside.x_fits ∙ (λ i. nat_le (plus i) (one i)))
    (c.no_more-2.ensures p.x inside.x_fits ∙ (λ i. nat_le (minus i) (two i)))
