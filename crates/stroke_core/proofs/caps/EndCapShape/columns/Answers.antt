use Rattle.std.proofs.Common.{◌+◌, ◌∙◌}
use Rattle.std.specs.Prelude.{nat_le}
use Rattle.plain_shapes.specs.Strokes.{past_end}
use Rattle.stroke_core.proofs.Rowwise.{along_plus_at, along_minus_at, raised_at, end_row, none_row}
use Rattle.stroke_core.proofs.caps.EndCapShape.columns.Goals as goal

pub returns-then-is_same : goal.returns-then-is_same
returns-then-is_same c p inside same =
    let s = c.args.self.now.of in
    none_row s.a s.b (past_end s.half s.a s.b p) _ c.is_same.result c.is_same.ensures c.if-is_same.true (c.nowhere.ensures p.x)

pub returns : goal.returns
returns c p inside same =
    let s = c.args.self.now.of in
    let plus = along_plus_at s.a s.b p c.args.y c.along-along.result.plus same c.along-along.ensures.plus in
    let minus = along_minus_at s.a s.b p c.args.y c.along-along.result.minus same c.along-along.ensures.minus in
    let one = raised_at c.along-along.result.minus c.raised.result (s.long + 1) p.x _ c.raised.ensures minus in
    let far = raised_at c.along-along.result.minus c.raised-2.result (s.long + s.reach) p.x _ c.raised-2.ensures minus in
    end_row s p c.is_same.result _ _ _ _ _ c.requires.valid c.is_same.ensures c.if-is_same.false (c.narrowed.ensures p.x) (c.narrowed-past.ensures p.x)
    (c.no_more.ensures p.x inside.x_fits ∙ (λ i. nat_le (one i) (plus i)))
    (c.no_more-2.ensures p.x inside.x_fits ∙ (λ i. nat_le (plus i) (far i)))
    (c.near.ensures p inside same)
