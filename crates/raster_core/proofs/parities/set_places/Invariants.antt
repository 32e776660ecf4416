use Rattle.std.proofs.Common.{◌≡◌, take}
use Rattle.raster_core.specs.inner.Toggles.{set_places}
use Rattle.raster_core.proofs.parities.set_places.Given as goal

abbrev pub invariant-loop-k : goal.invariant-loop-k
invariant-loop-k l = l.places.items ≡ set_places 0 (take l.k l.bits)
