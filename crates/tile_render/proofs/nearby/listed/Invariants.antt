-- What is listed and what is left of the walk are drawn as all that was to come.
use Rattle.std.proofs.Common.{◌≡◌, ◌++◌, map, length}
use Rattle.tile_render.specs.inner.Nearby.{DrawAlike}
use Rattle.tile_render.proofs.nearby.listed.Given as goal

abbrev pub invariant-loop-feature : goal.invariant-loop-feature
invariant-loop-feature l = record {
  alike : DrawAlike l.walk.asked (map (λ f. f.now) l.features.items ++ l.walk.left) l.fn.walk.left;
  asked : l.walk.asked ≡ l.fn.walk.asked;
}

abbrev pub decreases-loop-feature : goal.decreases-loop-feature
decreases-loop-feature l = length l.walk.left
