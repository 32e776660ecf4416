use Rattle.std.proofs.Common.{◌≡◌, ◌+◌, ◌-◌, ◌*◌, ◌^◌, ap, sym, ◌∙◌, arith}
use Rattle.std.proofs.lemmas.Nat.{pow-add}
use Rattle.merc_fixed.proofs.squares.meta_square.Goals as goal

pub returns-then-m-ge3-clause-valid : goal.returns-then-m-ge3-clause-valid
returns-then-m-ge3-clause-valid c =
    let d : 3 + (c.args.m.z - 3) ≡ c.args.m.z = omega (arith, c.if-m-ge3.true) in
    let p : 2 ^ 3 * 2 ^ (c.args.m.z - 3) ≡ 2 ^ c.args.m.z = sym (pow-add 2 3 (c.args.m.z - 3)) ∙ ap (λ n. 2 ^ n) d in
    record { z_fits = omega (arith, c.requires.z_fits); x_fits = omega (arith, p, c.requires.x_fits); y_fits = omega (arith, p, c.requires.y_fits) }
