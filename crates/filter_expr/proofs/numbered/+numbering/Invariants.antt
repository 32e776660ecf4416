use Rattle.std.proofs.Common.{◌≡◌, map, take}
use Rattle.plain_filters.specs.Filters.{tree_of}
use Rattle.filter_expr.specs.Numbered.{stands_for}
use Rattle.filter_expr.proofs.numbered.+numbering.Given as goal

abbrev pub invariant-numbered_parts-loop-part : goal.invariant-numbered_parts-loop-part
invariant-numbered_parts-loop-part l = map (stands_for (map (λ m. m.now) l.names)) l.made.items ≡ map tree_of (take l.part-index l.parts)
