use Rattle.std.proofs.Common.{ℕ, ◌<◌, ◌∙◌, List, Bool, false, ap, length, get_or, refl, arith}
use Rattle.std.specs.Prelude.{count_by}
use Rattle.std.proofs.lemmas.List.{length-set, length-replicate}
use Rattle.plain_shapes.specs.Rings.{is_odd}
use Rattle.raster_core.specs.inner.Toggles.{set_places}
use Rattle.raster_core.proofs.Toggling.{none_set, bits_more}
use Rattle.raster_core.proofs.parities.bits_of.Goals as goal

pub loop-place-init : goal.loop-place-init
loop-place-init c = record {
  count = ap length c.in_ok-bits.ensures ∙ length-replicate c.args.area false;
  parity = λ p. ap (λ (bs : List Bool). is_odd (count_by p (set_places 0 bs))) c.in_ok-bits.ensures ∙ ap (λ (ps : List ℕ). is_odd (count_by p ps)) (none_set 0 c.args.area);
}

pub loop-place-preserved : goal.loop-place-preserved
loop-place-preserved c =
    let k : ℕ = c.loop-place.place-index in
    let place : ℕ = get_or c.args.places.now k 0 in
    let bits : List Bool = c.loop-place.bits.items in
    let below : place < c.args.area = c.requires k 0 c.loop-place-test.true in
    let inside : place < length bits = omega (arith, c.loop-place.invariant.count) in
    record {
      count = ap length c.turn.ensures ∙ length-set bits place _ ∙ c.loop-place.invariant.count;
      parity = λ p. bits_more p c.args.places.now bits c.turn.new.bits.items k place 0 c.loop-place-test.true refl inside c.turn.ensures (c.loop-place.invariant.parity p);
    }
