use Rattle.std.proofs.Common.{◌≡◌, ◌^◌, Some, arith, sym, ◌∙◌}
use Rattle.farm_base.proofs.NumberTexts.{lesser_known, lesser_none}
use Rattle.farm_base.proofs.numbers.small_number.Goals as goal

pub returns-in-Some-clause-value : goal.returns-in-Some-clause-value
returns-in-Some-clause-value c =
    lesser_known (2 ^ 64) (2 ^ 32) c.args.text.now c.in-Some.number (omega arith) (omega arith) c.if-number.true c.in-Some.ensures

pub returns-in_default-clause-value : goal.returns-in_default-clause-value
returns-in_default-clause-value c = lesser_none (2 ^ 64) (2 ^ 32) c.args.text.now (omega arith) (omega arith) (λ n low e.
    let other : Some c.in-Some.number ≡ Some n = c.in-Some.ensures ∙ e in
    let same : c.in-Some.number ≡ n = cc in
    omega arith)

pub returns-in_default-2-clause-value : goal.returns-in_default-2-clause-value
returns-in_default-2-clause-value c = lesser_none (2 ^ 64) (2 ^ 32) c.args.text.now (omega arith) (omega arith) (λ n low e.
    let bad = sym e ∙ sym c.number.ensures ∙ c.in_default.is in cc)
