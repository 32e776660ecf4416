use Rattle.std.proofs.Common.{arith}
use Rattle.stroke_core.proofs.Rowwise.{block_row, block_off}
use Rattle.stroke_core.proofs.disks.BlockShape.columns.Goals as goal

pub returns-then-half-down : goal.returns-then-half-down
returns-then-half-down c p inside same = block_off c.args.self.now.half c.args.self.now.p p c.args.y c.apart-down.result _ same (omega arith) (omega arith) (c.nowhere.ensures p.x)

pub returns : goal.returns
returns c p inside same =
    block_row c.args.self.now.half c.args.self.now.p p c.args.y c.apart-down.result _ same (omega arith) (omega arith) (rw c.from-half.ensures at (c.around.ensures p.x))
