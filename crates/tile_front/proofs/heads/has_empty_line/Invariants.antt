use Rattle.std.proofs.Common.{◌≡◌, length}
use Rattle.tile_front.specs.Heads as spec
use Rattle.tile_front.proofs.heads.has_empty_line.Given as goal

abbrev pub invariant-loop-rest : goal.invariant-loop-rest
invariant-loop-rest l = spec.has_empty_line l.bytes ≡ spec.has_empty_line l.rest

abbrev pub decreases-loop-rest : goal.decreases-loop-rest
decreases-loop-rest l = length l.rest
