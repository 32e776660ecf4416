use Rattle.std.proofs.Common.{◌≡◌, map, filter, take}
use Rattle.plain_drawing.specs.Rules.{at_scale}
use Rattle.tile_render.proofs.scaled.active_rules.Given as goal

abbrev pub invariant-loop-rule : goal.invariant-loop-rule
invariant-loop-rule l = map (λ r. r.now) l.chosen.items ≡ filter (at_scale l.denominator) (take l.rule-index l.rules)
