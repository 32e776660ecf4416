use Rattle.std.proofs.Common.{◌≡◌, ◌*◌, ◌/◌, ◌%◌, ◌^◌, ◌<◌, ap, arith}
use Rattle.std.proofs.lemmas.Nat.{shl_whole}
use Rattle.plain_world.proofs.Windows.{size_bounds}
use Rattle.scale_rules.proofs.denominator.Goals as goal

pub returns-clause-value : goal.returns-clause-value
returns-clause-value c =
    let b = size_bounds c.args.size c.requires.size in
    let s : c.args.size < 2 ^ 10 = omega (arith, b.1) in
    let e : (c.args.size * 2 ^ c.args.z) % 2 ^ 64 ≡ c.args.size * 2 ^ c.args.z = shl_whole c.args.size 10 c.args.z 64 s (omega (arith, c.requires.zoom)) in
    rw c.from.ensures (ap (λ n. 143125059584 / n) e)
