use Rattle.std.proofs.Common.{◌≡◌, map}
use Rattle.std.specs.List.{range_with_len}
use Rattle.plain_world.specs.World.{centre}
use Rattle.tile_render.specs.inner.GridPlaces.{column_at}
use Rattle.tile_render.proofs.grids.grid_columns.Given as goal

abbrev pub invariant-loop-i : goal.invariant-loop-i
invariant-loop-i l = l.columns.items ≡ map (λ i. column_at l.grid (centre l.w i 0)) (range_with_len 0 l.i)
