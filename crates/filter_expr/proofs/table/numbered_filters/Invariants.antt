use Rattle.std.proofs.Common.{◌≡◌, map, take}
use Rattle.std.specs.Prelude.{option_map}
use Rattle.plain_filters.specs.Filters.{tree_of}
use Rattle.filter_expr.specs.Numbered.{stands_for}
use Rattle.filter_expr.proofs.table.numbered_filters.Given as goal

abbrev pub invariant-loop-filter : goal.invariant-loop-filter
invariant-loop-filter l = map (option_map (stands_for (map (λ m. m.now) l.names))) l.made.items ≡ map (λ f. option_map tree_of f.now) (take l.filter-index l.filters)
