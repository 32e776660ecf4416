-- Spots that a plan's farm can serve, and the keys of its metatiles.
use Rattle.std.specs.Prelude.{◌≡◌, slice_get, Some}
use Rattle.plain_world.specs.World.{IsTile, IsMeta}
use Rattle.farm_history.specs.declared.keys.Key.{Key}
use Rattle.farm_history.specs.declared.asks.Spot.{Spot}
use Rattle.farm_history.specs.Plans.{spot_tile, map_of}
use Rattle.farm_plan.specs.Plans.{MapPlan, FarmPlan, IsMapPlan}

-- a key of the plan: a map of it, and a metatile
pub record IsKeyOf (plan : FarmPlan) (k : Key) : Type 0 where
  pub map : MapPlan
  pub is_map : slice_get plan.maps k.map ≡ Some map
  pub valid : IsMapPlan map
  pub meta : IsMeta k.meta

-- a spot of the plan: a tile of one of its maps
pub record IsSpotOf (plan : FarmPlan) (spot : Spot) : Type 0 where
  pub map : MapPlan
  pub is_map : slice_get plan.maps (map_of spot) ≡ Some map
  pub valid : IsMapPlan map
  pub tile : IsTile (spot_tile spot)
