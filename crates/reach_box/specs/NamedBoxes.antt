-- The bounding boxes of the features that an update names, and what they reach.
use Rattle.std.specs.Prelude.{ℕ, ◌≡◌, Bool, false, List, Option, Some, None}
use Rattle.std.specs.List.{list_any}
use Rattle.plain_world.specs.declared.world.Square.{Square}
use Rattle.plain_world.specs.declared.world.Meta.{Meta}
use Rattle.plain_world.specs.World.{meta_square}
use Rattle.plain_shapes.specs.Features.{Feature}
use Rattle.plain_shapes.specs.Reach.{feature_reaches}
use Rattle.geo_model.specs.declared.bounds.Bounds.{Bounds}
use Rattle.reach_box.specs.Boxes.{IsBox, box_reaches}
use Rattle.farm_history.specs.Lists.{Each}
use Rattle.farm_plan.specs.Plans.{MapPlan}

-- some box reaches the square, for tiles of so many pixels at zoom z
abbrev pub boxes_reach : List Bounds → ℕ → ℕ → Square → Bool
boxes_reach boxes size z s = list_any (λ b. box_reaches b size z s) boxes

-- some feature does
abbrev pub features_reach : List Feature → ℕ → ℕ → Square → Bool
features_reach features size z s = list_any (λ f. feature_reaches f size z s) features

-- boxes of the features: together they reach what the features reach
pub record AreBoxesOf (features : List Feature) (boxes : List Bounds) : Type 0 where
  pub sound : Each IsBox boxes
  pub reach : (size z : ℕ) (s : Square)
      → boxes_reach boxes size z s ≡ features_reach features size z s

-- some box reaches the metatile's square, for tiles of the map; without a map nothing is reached
abbrev pub boxes_reach_map : List Bounds → Option MapPlan → Meta → Bool
boxes_reach_map boxes None m = false
boxes_reach_map boxes (Some mp) m = boxes_reach boxes mp.tile m.z (meta_square m)
