use Rattle.std.proofs.Common.{◌≡◌, map, take}
use Rattle.std.specs.Prelude.{option_map}
use Rattle.plain_filters.specs.Filters.{tree_of}
use Rattle.tile_render.proofs.scaled.filters_of.Given as goal

abbrev pub invariant-loop-rule : goal.invariant-loop-rule
invariant-loop-rule l = map (λ f. option_map tree_of f.now) l.filters.items ≡ map (λ r. r.now.filter) (take l.rule-index l.rules)
