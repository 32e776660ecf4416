-- What is reached among the marks is what the features reach, of keys of the plan.
use Rattle.std.proofs.Common.{◌≡◌, ℕ, ◌-◌, ◌≤◌, true, ◌&&◌, nat_lt, List, slice_get, Option, Some, None, refl, ap, arith}
use Rattle.std.proofs.lemmas.Bool.Decides.{nat_tests}
use Rattle.plain_world.specs.World.{meta_square}
use Rattle.plain_shapes.specs.Features.{Layer}
use Rattle.geo_model.specs.declared.bounds.Bounds.{Bounds}
use Rattle.farm_history.specs.declared.keys.Key.{Key}
use Rattle.farm_plan.specs.Plans.{MapPlan, FarmPlan}
use Rattle.farm_plan.specs.Drawings.{update_of, named, any_reaches_map, reaches_of}
use Rattle.farm_plan.specs.Spots.{IsKeyOf}
use Rattle.reach_box.specs.NamedBoxes.{AreBoxesOf, boxes_reach_map}
use Rattle.reach_box.specs.Marks.{is_reached}

zooms : (z : ℕ) → z ≤ 18 → nat_lt z 19 ≡ true
zooms z h = grind (arith, nat_tests)

-- a key of the plan is reached by the test of marks where some box reaches its metatile
pub reached_is : (plan : FarmPlan) (boxes : List Bounds) (k : Key) → IsKeyOf plan k → is_reached plan.maps boxes k ≡ boxes_reach_map boxes (slice_get plan.maps k.map) k.meta
reached_is plan boxes k key = ap (λ z. z && boxes_reach_map boxes (slice_get plan.maps k.map) k.meta) (zooms k.meta.z key.meta.z_fits)

-- and that is where some feature that the update names does
pub boxes_are : (plan : FarmPlan) (layers : List Layer) (n : ℕ) (boxes : List Bounds) (k : Key) → AreBoxesOf (named layers (update_of plan n)) boxes → boxes_reach_map boxes (slice_get plan.maps k.map) k.meta ≡ reaches_of plan layers n k
unfolding reaches_of
boxes_are plan layers n boxes k are = go (slice_get plan.maps k.map)
  where
    go : (o : Option MapPlan) → boxes_reach_map boxes o k.meta ≡ any_reaches_map (named layers (update_of plan n)) o k.meta
    go None = refl
    go (Some mp) = are.reach mp.tile k.meta.z (meta_square k.meta)
