use Rattle.std.proofs.Common.{◌≤◌, map}
use Rattle.std.specs.List.{position_or_len}
use Rattle.tile_render.specs.inner.Chosen.{takes}
use Rattle.tile_render.proofs.rules.first_match.Given as goal

abbrev pub invariant-loop-place : goal.invariant-loop-place
invariant-loop-place l = l.place ≤ position_or_len (takes l.table.attrs) (map (λ r. r.now) l.rules)
