use Rattle.std.proofs.Common.{take}
use Rattle.std.specs.Prelude.{All, ⊤}
use Rattle.plain_filters.specs.Filters.{tree_of}
use Rattle.filter_expr.specs.Marked.{AsksFor}
use Rattle.filter_expr.proofs.marks.+asking.Given as goal

abbrev pub invariant-marks_of_all-loop-part : goal.invariant-marks_of_all-loop-part
invariant-marks_of_all-loop-part l = All (λ e. AsksFor l.asked (tree_of e)) (take l.part-index l.parts)

abbrev pub invariant-marks_of_one-loop-part : goal.invariant-marks_of_one-loop-part
invariant-marks_of_one-loop-part l = ⊤
