use Rattle.std.proofs.Common.{◌≡◌, drop}
use Rattle.plain_image.specs.PpmText.{gap}
use Rattle.plain_image.specs.declared.reading.Gap.TheVariants.{Bare}
use Rattle.plain_image.proofs.parts.gap.Given as goal

abbrev pub invariant-loop-i : goal.invariant-loop-i
invariant-loop-i l = gap l.place l.i (drop l.i l.bytes) ≡ gap Bare l.at (drop l.at l.bytes)
