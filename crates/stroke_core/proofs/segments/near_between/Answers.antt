use Rattle.std.proofs.Common.{arith}
use Rattle.stroke_core.proofs.Between.{crossed}
use Rattle.stroke_core.proofs.segments.near_between.Goals as goal

pub returns-then-s : goal.returns-then-s
returns-then-s c p inside west east held =
    let s = c.args.s in
    c.near_along.ensures p inside
    (omega (arith, crossed c.args.west p.x s.a.y s.b.y west c.if-s.true)) (omega (arith, crossed p.x c.args.east s.a.y s.b.y east c.if-s.true)) held

pub returns-else-s : goal.returns-else-s
returns-else-s c p inside west east held =
    let s = c.args.s in
    c.near_along-else-s.ensures p inside
    (omega (arith, crossed p.x c.args.east s.b.y s.a.y east (omega (arith, c.if-s.false)))) (omega (arith, crossed c.args.west p.x s.b.y s.a.y west (omega (arith, c.if-s.false)))) held
