use Rattle.std.proofs.Common.{arith}
use Rattle.std.proofs.lemmas.List.{take_all}
use Rattle.tile_render.proofs.Passing.{rules_more}
use Rattle.tile_render.proofs.scaled.marks_of_rules.Goals as goal

pub loop-rule-preserved : goal.loop-rule-preserved
loop-rule-preserved c =
    rules_more (λ r. r.now) c.loop-rule.asked c.in_ok-asked.field-0 c.args.rules.now c.loop-rule.rule-index c.rule-item.result c.loop-rule-test.true c.rule-item.is c.loop-rule.invariant
    c.in_ok-asked.ensures

pub returns : goal.returns
returns c = rw (take_all c.loop-rule.rule-index c.args.rules.now (omega (arith, c.loop-rule-test.false))) at c.loop-rule.invariant
