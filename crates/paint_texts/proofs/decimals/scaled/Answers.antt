use Rattle.std.proofs.Common.{arith, length, ◌-◌}
use Rattle.paint_texts.proofs.Runs.{product_fits}
use Rattle.paint_texts.proofs.decimals.scaled.Goals as goal

pub overflow_mul-result : goal.overflow_mul-result
overflow_mul-result c =
    let p = product_fits (length c.args.whole.now) c.args.places c.number.result c.ten_to.result c.number.ensures.bound c.requires.whole_few c.ten_to.ensures c.requires.places in
    omega (arith, p)

pub overflow_add-result : goal.overflow_add-result
overflow_add-result c =
    let p = product_fits (length c.args.whole.now) c.args.places c.number.result c.ten_to.result c.number.ensures.bound c.requires.whole_few c.ten_to.ensures c.requires.places in
    let q = product_fits (length c.args.fraction.now) (c.args.places - length c.args.fraction.now) c.number-2.result c.ten_to-2.result c.number-2.ensures.bound (omega (arith, c.requires.few, c.requires.places)) c.ten_to-2.ensures (omega (arith, c.requires.places)) in
    omega (arith, p, q)
