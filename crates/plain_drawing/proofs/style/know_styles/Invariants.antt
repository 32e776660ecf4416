use Rattle.std.proofs.Common.{take, All}
use Rattle.plain_drawing.specs.Styles.{KeepsRanges}
use Rattle.plain_drawing.proofs.style.know_styles.Given as goal

abbrev pub invariant-loop-style : goal.invariant-loop-style
invariant-loop-style l = All KeepsRanges (take l.style-index l.styles)
