-- What is chosen so far draws what all so far do.
use Rattle.std.proofs.Common.{map, take}
use Rattle.tile_render.specs.inner.Chosen.{DrawsAs}
use Rattle.tile_render.proofs.styles.that_may_be_drawn.Given as goal

abbrev pub invariant-loop-feature : goal.invariant-loop-feature
invariant-loop-feature l = DrawsAs l.w l.scaled (map (λ f. f.now) l.chosen.items) (map (λ f. f.now) (take l.feature-index l.features))
