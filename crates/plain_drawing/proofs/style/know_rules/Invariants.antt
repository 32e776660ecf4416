use Rattle.std.proofs.Common.{take, IsTrue, All}
use Rattle.std.specs.List.{list_all}
use Rattle.plain_drawing.specs.Styles.{is_paint}
use Rattle.plain_drawing.proofs.style.know_rules.Given as goal

abbrev pub invariant-loop-rule : goal.invariant-loop-rule
invariant-loop-rule l = All (λ r. IsTrue (list_all is_paint r.symbolizers)) (take l.rule-index l.rules)
