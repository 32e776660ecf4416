use Rattle.std.proofs.Common.{◌+◌, ◌*◌, ◌^◌, ◌≤◌, arith}
use Rattle.plain_world.specs.World.{side_at}
use Rattle.plain_world.proofs.Windows.{columns_fit}
use Rattle.merc_fixed.proofs.windows.edge.Goals as goal

pub overflow_mul-result : goal.overflow_mul-result
overflow_mul-result c =
    let e : c.args.n * side_at c.args.z + 1 * side_at c.args.z ≤ 2 ^ 30 = columns_fit c.args.z c.args.n 1 c.requires.zoom (omega (arith, c.requires.place)) in
    rw c.side.ensures (omega (arith, e))
