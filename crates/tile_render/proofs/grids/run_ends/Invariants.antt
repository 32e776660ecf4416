use Rattle.std.proofs.Common.{◌≡◌, ℕ, ◌<◌, length, get_or}
use Rattle.tile_render.specs.inner.GridPlaces.{IsRun}
use Rattle.tile_render.proofs.grids.run_ends.Given as goal

abbrev pub invariant-loop-i : goal.invariant-loop-i
invariant-loop-i l = record {
  long : length l.ends.items ≡ l.i;
  runs : (k : ℕ) → k < l.i → IsRun l.places k (get_or l.ends.items k 0);
  ahead : l.i < l.end → IsRun l.places l.i l.end;
}
