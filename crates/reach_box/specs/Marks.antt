-- What boxes reach among the marks.
use Rattle.std.specs.Prelude.{ℕ, ◌-◌, ◌^◌, ◌≡◌, min, Bool, ◌&&◌, nat_lt, List, slice_get}
use Rattle.geo_model.specs.declared.bounds.Bounds.{Bounds}
use Rattle.expiry_lists.specs.Marks.{Shown, dirtied_marks, clean_marks}
use Rattle.farm_history.specs.declared.keys.Key.{Key}
use Rattle.farm_plan.specs.Plans.{MapPlan}
use Rattle.reach_box.specs.NamedBoxes.{boxes_reach_map}

-- the key is of one of the maps, at one of the zooms 0 to 18, and some box reaches its metatile
-- there
abbrev pub is_reached : List MapPlan → List Bounds → Key → Bool
is_reached maps boxes k = nat_lt k.meta.z 19 && boxes_reach_map boxes (slice_get maps k.map) k.meta

-- the greatest count that is told
abbrev pub most_told : ℕ
most_told = 2 ^ 64 - 1

-- the marks after an expiry of the keys that pass the test, and how many were clean, as far as that
-- can be told
pub record Expires (test : Key → Bool) (old new : List Shown) (count : ℕ) : Type 0 where
  pub shown : new ≡ dirtied_marks test old
  pub count_is : count ≡ min (clean_marks test old) most_told
