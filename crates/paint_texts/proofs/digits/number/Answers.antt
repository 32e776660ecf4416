use Rattle.std.proofs.Common.{arith, get_or, refl, ap, ◌+◌, ◌*◌}
use Rattle.paint_texts.proofs.Runs.{number_more, number_ends, number_grows, digit_at}
use Rattle.paint_texts.proofs.digits.number.Goals as goal

pub overflow_mul-n : goal.overflow_mul-n
overflow_mul-n c =
    let g = number_grows c.loop-digit.digit-index c.loop-digit.n 0 (omega (arith, c.requires.few, c.loop-digit-test.true)) c.loop-digit.invariant.bound (omega arith) in
    omega (arith, g)

pub overflow_add-n : goal.overflow_add-n
overflow_add-n c =
    let d = digit_at c.args.digits.now c.loop-digit.digit-index (get_or c.args.digits.now c.loop-digit.digit-index 0) c.requires.digits c.loop-digit-test.true refl in
    let g = number_grows c.loop-digit.digit-index c.loop-digit.n c.from.result (omega (arith, c.requires.few, c.loop-digit-test.true)) c.loop-digit.invariant.bound (omega (arith, c.from.ensures)) in
    omega (arith, g)

pub loop-digit-preserved : goal.loop-digit-preserved
loop-digit-preserved c =
    let d = digit_at c.args.digits.now c.loop-digit.digit-index (get_or c.args.digits.now c.loop-digit.digit-index 0) c.requires.digits c.loop-digit-test.true refl in
    let g = number_grows c.loop-digit.digit-index c.loop-digit.n c.from.result (omega (arith, c.requires.few, c.loop-digit-test.true)) c.loop-digit.invariant.bound (omega (arith, c.from.ensures)) in
    record {
      value = number_more c.args.digits.now c.loop-digit.digit-index _ c.loop-digit.n _ _ refl (ap (λ n. 10 * c.loop-digit.n + n) c.from.ensures) c.loop-digit-test.true c.loop-digit.invariant.value;
      bound = g.0;
    }

pub returns-clause-value : goal.returns-clause-value
returns-clause-value c = number_ends c.args.digits.now c.loop-digit.digit-index c.loop-digit.n _ (omega (arith, c.loop-digit-test.false)) c.loop-digit.invariant.value
