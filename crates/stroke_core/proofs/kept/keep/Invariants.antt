use Rattle.std.proofs.Common.{◌≡◌, ◌++◌, drop}
use Rattle.plain_shapes.specs.Strokes.{kept_after}
use Rattle.stroke_core.proofs.kept.keep.Given as goal

abbrev pub invariant-loop-p : goal.invariant-loop-p
invariant-loop-p l = l.out.items ++ kept_after l.before (drop l.p-index l.rest) ≡ l.fn.out.items ++ kept_after l.fn.first l.rest
