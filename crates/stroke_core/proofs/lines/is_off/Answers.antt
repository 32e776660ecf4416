use Rattle.std.proofs.Common.{◌+◌, ◌≤◌, arith}
use Rattle.std.proofs.Math.Nat.{mul-le-mul_right}
use Rattle.plain_world.specs.World.{centre}
use Rattle.stroke_core.proofs.Rounds.{part_box}
use Rattle.stroke_core.proofs.lines.is_off.Goals as goal

pub returns-then-misses : goal.returns-then-misses
returns-then-misses c off j i col row held =
    let w = c.args.w in
    let box = part_box c.args.half c.args.a c.args.b (centre w i j) held in
    let next : i + 1 ≤ w.cols = omega arith in
    c.misses.ensures off (centre w i j).x (omega arith) (omega (arith, mul-le-mul_right w.pixel next))
    (record {
      from_start = omega (arith, box.west, c.between-across.ensures.start, c.from.ensures);
      before_end = omega (arith, box.east, c.between-across.ensures.end, c.from.ensures);
    })

pub returns-else-misses : goal.returns-else-misses
returns-else-misses c off j i col row held =
    let w = c.args.w in
    let box = part_box c.args.half c.args.a c.args.b (centre w i j) held in
    let next : j + 1 ≤ w.rows = omega arith in
    c.misses-else-misses.ensures off (centre w i j).y (omega arith) (omega (arith, mul-le-mul_right w.pixel next))
    (record {
      from_start = omega (arith, box.north, c.between-down.ensures.start, c.from-2.ensures);
      before_end = omega (arith, box.south, c.between-down.ensures.end, c.from-2.ensures);
    })
