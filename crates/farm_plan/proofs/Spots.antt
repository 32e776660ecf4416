-- A spot that the farm of a plan can serve is a tile of one of its maps, and its key is one of the plan's.
use Rattle.std.proofs.Common.{◌≡◌, ℕ, ◌≤◌, true, false, List, Option, Some, None, refl, subst, arith}
use Rattle.std.specs.Prelude.{All, slice_get, option_map, map as map_list}
use Rattle.std.proofs.lemmas.Bool.Decides.{nat_tests}
use Rattle.std.proofs.lemmas.Option.{slice_get-map, slice_get_within, get_or_from_slice_get}
use Rattle.std.proofs.lemmas.List.Elements.{All-get_or}
use Rattle.plain_world.specs.World.{IsMeta, meta_of}
use Rattle.farm_history.specs.declared.keys.Key.{Key}
use Rattle.farm_history.specs.declared.asks.Spot.{Spot}
use Rattle.farm_history.specs.Plans.{spot_tile, key_of, is_servable, is_at_most}
use Rattle.farm_history.specs.Replays.{lowest}
use Rattle.farm_history.proofs.Keyed.{IsServed}
use Rattle.farm_plan.specs.Plans.{MapPlan, FarmPlan, IsMapPlan, IsPlan}
use Rattle.farm_plan.specs.Drawings.{plan_of}
use Rattle.farm_plan.specs.Spots.{IsKeyOf, IsSpotOf}

-- what all of a list keep is kept by the one at a place
pub all_at : {X : Type 0} (P : X → Type 0) (xs : List X) (i : ℕ) (x : X) → All P xs → slice_get xs i ≡ Some x → P x
all_at P xs i x each is = subst P (get_or_from_slice_get xs i x x is) (All-get_or P xs i x (slice_get_within xs i x is) each)

-- the map that is given is in the table, and the zoom is at most its greatest
record IsZoomOf (maps : List MapPlan) (place z : ℕ) : Type 0 where
  pub map : MapPlan
  pub is_map : slice_get maps place ≡ Some map
  pub fits : z ≤ map.max_zoom

zoom_of : (maps : List MapPlan) (place z : ℕ) → is_at_most z (slice_get (map_list (λ m. m.max_zoom) maps) place) ≡ true → IsZoomOf maps place z
zoom_of maps place z h = go (slice_get maps place) refl (rw (slice_get-map (λ (m : MapPlan). m.max_zoom) maps place) at h)
  where
    go : (o : Option MapPlan) → slice_get maps place ≡ o → is_at_most z (option_map (λ m. m.max_zoom) o) ≡ true → IsZoomOf maps place z
    go None is never = let e : false ≡ true = never in cc
    go (Some m) is fits = record { map = m; is_map = is; fits = grind (arith, nat_tests) }

-- a spot that can be served is a spot of the plan
pub spot_of : (plan : FarmPlan) (spot : Spot) → IsPlan plan → is_servable (plan_of plan) spot ≡ true → IsSpotOf plan spot
unfolding is_servable plan_of
spot_of plan spot valid h = go spot.map spot.z spot.x spot.y h
  where
    go : (m : Option ℕ) (z x y : ℕ) → is_servable (plan_of plan) (record { map = m; z = z; x = x; y = y }) ≡ true → IsSpotOf plan (record { map = m; z = z; x = x; y = y })
    go None z x y h = let never : false ≡ true = h in cc
    go (Some m) z x y h =
        let zoom = zoom_of plan.maps m z (grind arith) in
        let map_valid = all_at IsMapPlan plan.maps m zoom.map valid.each_map zoom.is_map in
        let low = zoom.fits in
        let least = map_valid.zooms in
        record {
          map = zoom.map;
          is_map = zoom.is_map;
          valid = map_valid;
          tile = record { z_fits = omega arith; x_fits = grind (arith, nat_tests); y_fits = grind (arith, nat_tests) };
        }

-- the metatile of a tile is one
pub meta_is : (plan : FarmPlan) (spot : Spot) → IsSpotOf plan spot → IsMeta (meta_of (spot_tile spot))
meta_is plan spot s =
    let t = s.tile in
    record {
      z_fits = t.z_fits;
      x_fits = omega (arith, t.x_fits);
      y_fits = omega (arith, t.y_fits);
      x_eights = omega arith;
      y_eights = omega arith;
    }

-- the key of a spot of the plan is a key of the plan
pub key_is : (plan : FarmPlan) (spot : Spot) → IsSpotOf plan spot → IsKeyOf plan (key_of spot)
key_is plan spot s = record { map = s.map; is_map = s.is_map; valid = s.valid; meta = meta_is plan spot s }

-- a key whose lowest tile can be served is a key of the plan
pub served_key : (plan : FarmPlan) (k : Key) → IsPlan plan → IsServed (plan_of plan) k → IsKeyOf plan k
served_key plan k valid s = subst (IsKeyOf plan) s.key_is (key_is plan (lowest k) (spot_of plan (lowest k) valid s.servable))
