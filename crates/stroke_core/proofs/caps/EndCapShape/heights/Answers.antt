use Rattle.std.proofs.Common.{◌+◌, ◌*◌, arith}
use Rattle.stroke_core.proofs.Spans.{box_heights, end_held}
use Rattle.stroke_core.proofs.caps.EndCapShape.heights.Goals as goal

pub returns : goal.returns
returns c p inside held =
    let s = c.args.self.now.of in
    box_heights (s.half + s.half) (2 * c.from.result) s.b s.b p c.between.result (omega (arith, c.from.ensures)) c.between.ensures.start c.between.ensures.end (end_held s.half s.a s.b p held)
