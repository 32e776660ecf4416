use Rattle.std.proofs.Common.{◌≡◌, ℕ, Bool, length, take, count_by}
use Rattle.plain_shapes.specs.Rings.{is_odd}
use Rattle.raster_core.specs.inner.Toggles.{set_places}
use Rattle.raster_core.proofs.parities.bits_of.Given as goal

abbrev pub invariant-loop-place : goal.invariant-loop-place
invariant-loop-place l = record {
  count : length l.bits.items ≡ l.fn.area;
  parity : (p : ℕ → Bool) → is_odd (count_by p (set_places 0 l.bits.items)) ≡ is_odd (count_by p (take l.place-index l.places));
}
