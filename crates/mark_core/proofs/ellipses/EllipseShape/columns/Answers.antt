use Rattle.std.proofs.Common.{◌∙◌, sym, arith}
use Rattle.mark_core.proofs.Marks.{mark_row, mark_off, reaches_parts}
use Rattle.mark_core.proofs.ellipses.EllipseShape.columns.Goals as goal

pub returns-then-reaches : goal.returns-then-reaches
returns-then-reaches c p inside same =
    let s = c.args.self.now in
    let parts = reaches_parts s.a s.b c.apart-down.result (sym c.reaches.ensures ∙ c.if-reaches.true) in
    mark_row s.a s.b p s.centre c.args.y c.apart-down.result c.width_at.result _ same (omega arith) parts.0 parts.1 c.width_at.ensures.is (c.around.ensures p.x)

pub returns-else-reaches : goal.returns-else-reaches
returns-else-reaches c p inside same =
    let s = c.args.self.now in
    mark_off s.a s.b p s.centre c.args.y c.apart-down.result _ same (omega arith) (sym c.reaches.ensures ∙ c.if-reaches.false) (c.nowhere.ensures p.x)
