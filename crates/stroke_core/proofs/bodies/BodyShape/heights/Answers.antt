use Rattle.stroke_core.proofs.Spans.{box_heights, body_held}
use Rattle.stroke_core.proofs.bodies.BodyShape.heights.Goals as goal

pub returns : goal.returns
returns c p inside held =
    let s = c.args.self.now.of in
    box_heights s.half c.from.result s.a s.b p c.between.result c.from.ensures c.between.ensures.start c.between.ensures.end (body_held s.half s.a s.b p held)
