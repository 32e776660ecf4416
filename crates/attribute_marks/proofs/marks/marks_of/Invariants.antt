use Rattle.std.proofs.Common.{take}
use Rattle.attribute_marks.specs.Marks.{HasMarks}
use Rattle.attribute_marks.proofs.marks.marks_of.Given as goal

abbrev pub invariant-loop-attr : goal.invariant-loop-attr
invariant-loop-attr l = HasMarks l.marks (take l.attr-index l.attrs)
