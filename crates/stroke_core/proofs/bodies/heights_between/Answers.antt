use Rattle.stroke_core.proofs.Between.{of_both, body_near}
use Rattle.stroke_core.proofs.bodies.heights_between.Goals as goal

pub returns-then-ends_between : goal.returns-then-ends_between
returns-then-ends_between c p inside west east held = c.heights-down.ensures p inside held

pub returns : goal.returns
returns c p inside west east held =
    let s = c.args.body.now.of in
    of_both c.heights-down.result c.near_between.result c.narrowed.result p.y (c.narrowed.ensures p.y)
    (c.heights-down.ensures p inside held) (c.near_between.ensures p inside west east (body_near s.half s.a s.b p held))
