use Rattle.std.proofs.Common.{arith}
use Rattle.mark_core.proofs.Marks.{mark_near}
use Rattle.mark_core.proofs.ellipses.EllipseShape.heights.Goals as goal

pub returns : goal.returns
returns c p inside held =
    let near = (mark_near c.args.self.now.a c.args.self.now.b p c.args.self.now.centre held).1 in
    record {
      from_start = omega (arith, c.beside.ensures.start);
      before_end = omega (arith, c.beside.ensures.end);
    }
