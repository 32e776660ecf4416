-- Which spots a plan serves, step by step.
use Rattle.std.proofs.Common.{◌≡◌, ℕ, ◌+◌, ◌^◌, ◌<◌, ◌≤◌, Bool, true, false, ◌&&◌, nat_lt, Option, Some, None, refl, ap, ◌∙◌, arith}
use Rattle.std.specs.Prelude.{slice_get, option_map}
use Rattle.std.proofs.lemmas.Bool.Decides.{nat_tests}
use Rattle.std.proofs.lemmas.Option.{slice_get-map}
use Rattle.plain_world.specs.declared.world.Tile.{Tile}
use Rattle.plain_world.specs.declared.world.Meta.{Meta}
use Rattle.plain_world.specs.World.{IsTile, meta_of}
use Rattle.farm_history.specs.declared.asks.Spot.{Spot}
use Rattle.farm_history.specs.Plans.{is_servable, is_at_most, greatest_zoom, spot_tile, map_of, map_or_first, key_of}
use Rattle.farm_plan.specs.Plans.{MapPlan, FarmPlan, IsMapPlan, IsPlan}
use Rattle.farm_plan.specs.Drawings.{plan_of}
use Rattle.farm_plan.specs.Spots.{IsKeyOf}
use Rattle.farm_plan.proofs.Spots.{all_at, spot_of, key_is}

pub no_map : (plan : FarmPlan) (spot : Spot) → spot.map ≡ None → is_servable (plan_of plan) spot ≡ false
unfolding is_servable plan_of
no_map plan spot is = ap (λ (o : Option ℕ). is_at_most spot.z (greatest_zoom (plan_of plan).max_zooms o) && (nat_lt spot.x (2 ^ spot.z) && nat_lt spot.y (2 ^ spot.z))) is

pub no_plan : (plan : FarmPlan) (spot : Spot) (place : ℕ) → spot.map ≡ Some place → slice_get plan.maps place ≡ None → is_servable (plan_of plan) spot ≡ false
unfolding is_servable plan_of
no_plan plan spot place is none =
    ap (λ (o : Option ℕ). is_at_most spot.z (greatest_zoom (plan_of plan).max_zooms o) && (nat_lt spot.x (2 ^ spot.z) && nat_lt spot.y (2 ^ spot.z))) is
    ∙ ap (λ (o : Option ℕ). is_at_most spot.z o && (nat_lt spot.x (2 ^ spot.z) && nat_lt spot.y (2 ^ spot.z))) (slice_get-map (λ (m : MapPlan). m.max_zoom) plan.maps place ∙ ap (λ (o : Option MapPlan). option_map (λ m. m.max_zoom) o) none)

-- a spot of a map of the plan
pub on_map : (plan : FarmPlan) (spot : Spot) (place : ℕ) (mp : MapPlan) → spot.map ≡ Some place → slice_get plan.maps place ≡ Some mp →
    is_servable (plan_of plan) spot ≡ (nat_lt spot.z (mp.max_zoom + 1) && (nat_lt spot.x (2 ^ spot.z) && nat_lt spot.y (2 ^ spot.z)))
unfolding is_servable plan_of
on_map plan spot place mp is found =
    ap (λ (o : Option ℕ). is_at_most spot.z (greatest_zoom (plan_of plan).max_zooms o) && (nat_lt spot.x (2 ^ spot.z) && nat_lt spot.y (2 ^ spot.z))) is
    ∙ ap (λ (o : Option ℕ). is_at_most spot.z o && (nat_lt spot.x (2 ^ spot.z) && nat_lt spot.y (2 ^ spot.z))) (slice_get-map (λ (m : MapPlan). m.max_zoom) plan.maps place ∙ ap (λ (o : Option MapPlan). option_map (λ m. m.max_zoom) o) found)

pub too_deep : (plan : FarmPlan) (spot : Spot) (place : ℕ) (mp : MapPlan) → spot.map ≡ Some place → slice_get plan.maps place ≡ Some mp → mp.max_zoom < spot.z → is_servable (plan_of plan) spot ≡ false
too_deep plan spot place mp is found deep = on_map plan spot place mp is found ∙ grind (arith, nat_tests)

pub no_tile : (plan : FarmPlan) (spot : Spot) (place : ℕ) (mp : MapPlan) → IsPlan plan → spot.map ≡ Some place → slice_get plan.maps place ≡ Some mp → spot.z ≤ mp.max_zoom → (IsTile (spot_tile spot) → ⊥) → is_servable (plan_of plan) spot ≡ false
no_tile plan spot place mp valid is found fits none = on_map plan spot place mp is found ∙ go (nat_lt spot.x (2 ^ spot.z)) (nat_lt spot.y (2 ^ spot.z)) refl refl
  where
    low : spot.z ≤ 18
    low = let z = (all_at IsMapPlan plan.maps place mp valid.each_map found).zooms in omega (arith, z, fits)

    go : (b d : Bool) → nat_lt spot.x (2 ^ spot.z) ≡ b → nat_lt spot.y (2 ^ spot.z) ≡ d → (nat_lt spot.z (mp.max_zoom + 1) && (b && d)) ≡ false
    go true true x y = absurd (none (record { z_fits = low; x_fits = grind (arith, nat_tests); y_fits = grind (arith, nat_tests) }))
    go true false x y = grind arith
    go false d x y = grind arith

pub served : (plan : FarmPlan) (spot : Spot) (place : ℕ) (mp : MapPlan) → spot.map ≡ Some place → slice_get plan.maps place ≡ Some mp → spot.z ≤ mp.max_zoom → IsTile (spot_tile spot) → is_servable (plan_of plan) spot ≡ true
served plan spot place mp is found fits tile = on_map plan spot place mp is found ∙ (let x = tile.x_fits in let y = tile.y_fits in grind (arith, nat_tests))

pub served_key : (plan : FarmPlan) (spot : Spot) → IsPlan plan → is_servable (plan_of plan) spot ≡ true → IsKeyOf plan (key_of spot)
served_key plan spot valid on = key_is plan spot (spot_of plan spot valid on)

-- the key of a spot, made of its parts
pub key_made : (spot : Spot) (place : ℕ) (t : Tile) (m : Meta) → spot.map ≡ Some place → t ≡ spot_tile spot → m ≡ meta_of t → record { map = place; meta = m } ≡ key_of spot
key_made spot place t m is made meta = let same : map_of spot ≡ place = ap (λ (o : Option ℕ). map_or_first o) is in cc
