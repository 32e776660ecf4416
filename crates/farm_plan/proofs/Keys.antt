-- The paths of a plan's keys differ, and each ends in `.meta`.
use Rattle.std.proofs.Common.{◌≡◌, ℕ, List, ◌++◌, Option, sym, ap, ◌∙◌}
use Rattle.std.specs.Prelude.{codes}
use Rattle.tile_paths.specs.Paths.{path_of}
use Rattle.tile_paths.proofs.Alike.{one_path, ends_in_meta}
use Rattle.farm_history.specs.declared.keys.Key.{Key}
use Rattle.farm_plan.specs.Plans.{MapPlan, FarmPlan, IsPlan}
use Rattle.farm_plan.specs.Drawings.{path_in, key_path}
use Rattle.farm_plan.specs.Spots.{IsKeyOf}

-- the path of a key of the plan is that of its map's name
pub path_is : (plan : FarmPlan) (k : Key) (at : IsKeyOf plan k) → key_path plan k ≡ path_of at.map.name k.meta
path_is plan k at = ap (λ (o : Option MapPlan). path_in o k.meta) at.is_map

-- keys that have one path are one
pub one_key : (plan : FarmPlan) (a b : Key) → IsPlan plan → IsKeyOf plan a → IsKeyOf plan b → key_path plan a ≡ key_path plan b → a ≡ b
one_key plan a b valid at bt e =
    let same = one_path at.map.name bt.map.name a.meta b.meta at.valid.named bt.valid.named at.meta bt.meta (sym (path_is plan a at) ∙ e ∙ path_is plan b bt) in
    let map : a.map ≡ b.map = valid.apart a.map b.map at.map bt.map at.is_map bt.is_map same.0 in
    λ i. record { map = map i; meta = same.1 i }

-- the path of a key of the plan ends in `.meta`
pub path_ends : (plan : FarmPlan) (k : Key) → IsKeyOf plan k → (front : List ℕ) × (key_path plan k ≡ front ++ codes ".meta")
path_ends plan k at = let ends = ends_in_meta at.map.name k.meta in (ends.0, path_is plan k at ∙ ends.1)
