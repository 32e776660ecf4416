use Rattle.std.proofs.Common.{◌-◌, ◌*◌, ◌≤◌, ap, ◌∙◌, arith}
use Rattle.std.specs.Prelude.{nat_le}
use Rattle.plain_shapes.proofs.Signs.{root_le}
use Rattle.stroke_core.proofs.Rowwise.{disk_row, disk_off}
use Rattle.stroke_core.proofs.disks.DiskShape.columns.Goals as goal

pub returns-then-half-down : goal.returns-then-half-down
returns-then-half-down c p inside same = disk_off c.args.self.now.half c.args.self.now.p p c.args.y c.apart-down.result _ same (omega arith) (omega arith) (c.nowhere.ensures p.x)

pub returns : goal.returns
returns c p inside same =
    let down = c.apart-down.result in
    let left = ap (λ k. k * k - down * down) c.from-half.ensures in
    disk_row c.args.self.now.half c.args.self.now.p p c.args.y down c.short_root.result _ same (omega arith) (omega arith)
    (λ d. c.short_root.ensures.is d ∙ ap (λ k. nat_le (d * d) k) left) (c.around.ensures p.x)

pub around-requires : goal.around-requires
around-requires c =
    let little : c.short_root.result ≤ c.from-half.result = root_le c.short_root.result c.from-half.result (omega (arith, c.short_root.ensures.low)) in
    omega arith
