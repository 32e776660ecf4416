use Rattle.std.proofs.Common.{take}
use Rattle.std.specs.Prelude.{All}
use Rattle.tile_render.specs.inner.Chosen.{RuleAsks}
use Rattle.tile_render.proofs.scaled.marks_of_rules.Given as goal

abbrev pub invariant-loop-rule : goal.invariant-loop-rule
invariant-loop-rule l = All (λ r. RuleAsks l.asked r.now) (take l.rule-index l.rules)
