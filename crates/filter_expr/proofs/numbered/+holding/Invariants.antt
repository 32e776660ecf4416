use Rattle.std.proofs.Common.{◌≡◌, drop, map}
use Rattle.std.specs.List.{list_any, list_all}
use Rattle.plain_filters.specs.Values.{truth}
use Rattle.filter_expr.specs.Numbered.{numbered_value}
use Rattle.filter_expr.proofs.numbered.+holding.Given as goal

abbrev pub invariant-any_holds-loop-part : goal.invariant-any_holds-loop-part
invariant-any_holds-loop-part l = list_any truth (map (numbered_value l.named) (drop l.part-index l.parts)) ≡ list_any truth (map (numbered_value l.named) l.parts)

abbrev pub invariant-all_hold-loop-part : goal.invariant-all_hold-loop-part
invariant-all_hold-loop-part l = list_all truth (map (numbered_value l.named) (drop l.part-index l.parts)) ≡ list_all truth (map (numbered_value l.named) l.parts)
