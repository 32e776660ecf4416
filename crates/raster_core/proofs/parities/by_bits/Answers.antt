use Rattle.std.proofs.Common.{◌≡◌, ◌+◌, ◌*◌, ◌∙◌, ℕ, List, ap, sym, subst, length, arith}
use Rattle.std.specs.Prelude.{count_by}
use Rattle.std.specs.List.Sorted.{IsNonDecreasing}
use Rattle.farm_base.proofs.Outcomes.{if_ok}
use Rattle.plain_shapes.specs.Rings.{is_odd}
use Rattle.raster_core.specs.inner.Toggles.{AllInside}
use Rattle.raster_core.proofs.Toggling.{set_below, set_order}
use Rattle.raster_core.proofs.parities.by_bits.Goals as goal

pub returns-clause-inside : goal.returns-clause-inside
returns-clause-inside c =
    let all : 0 + length c.deref.result.now ≡ c.args.w.rows * c.args.w.cols = omega (arith, ap length c.deref.ensures.value, c.in_ok-bits.ensures.count, c.area_of.ensures.value) in
    if_ok _ _ c.set_places.result (λ v is. subst (λ (ps : List ℕ). AllInside c.args.w ps) (sym is) (set_below 0 (c.args.w.rows * c.args.w.cols) c.deref.result.now all)) c.set_places.ensures

pub returns-clause-order : goal.returns-clause-order
returns-clause-order c = if_ok _ _ c.set_places.result (λ v is. subst (λ (ps : List ℕ). IsNonDecreasing ps) (sym is) (set_order 0 c.deref.result.now)) c.set_places.ensures

pub returns-clause-parity : goal.returns-clause-parity
returns-clause-parity c =
    if_ok _ _ c.set_places.result
    (λ v is. record { parity = λ p. ap (λ (ps : List ℕ). is_odd (count_by p ps)) is ∙ rw c.deref.ensures.value (c.in_ok-bits.ensures.parity p) }) c.set_places.ensures
