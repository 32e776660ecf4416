-- Where in a layer a feature stands, and which features are near a rectangle.
use Rattle.std.specs.Prelude.{◌≡◌, ℕ, ◌+◌, Bool, nat_eq, List, [], ◌∷◌, ◌++◌, drop, filter, position, All, Option, Some, None, option_map}
use Rattle.plain_shapes.specs.Features.{Feature}
use Rattle.attribute_marks.specs.Marks.{Lacks}
use Rattle.geo_model.specs.declared.bounds.Bounds.{Bounds}
use Rattle.geo_model.specs.Bounds.{bounds_of, meets}
use Rattle.geo_model.specs.Shapes.{parts_of}

-- the place of the id: the first feature that has it
abbrev pub place_of : List Feature → ℕ → Option ℕ
place_of features id = position (λ f. nat_eq f.id id) features

-- the bounding box of a feature's points
abbrev pub box_of : Feature → Bounds
box_of f = bounds_of (parts_of f.geometry)

-- the feature's bounding box and the rectangle, borders included, have a point in common
abbrev pub is_near : Bounds → Feature → Bool
is_near around f = meets (box_of f) around

-- the least place from `from` on of a feature near the rectangle
abbrev pub next_near : List Feature → ℕ → Bounds → Option ℕ
next_near features from around =
    option_map (λ k. from + k) (position (is_near around) (drop from features))

-- the features near the rectangle, in order
abbrev pub all_near : List Feature → Bounds → List Feature
all_near features around = filter (is_near around) features

-- marks are asked for, and no attribute of the feature has one of them
abbrev pub IsUnasked : Option ℕ → Feature → Type 0
IsUnasked None f = ⊥
IsUnasked (Some asked) f = Lacks asked f.attrs

-- what is left of a walk: marks, if some are asked for, and the near features that are still to come
pub record Walk : Type 0 where
  pub asked : Option ℕ
  pub left : List Feature

-- the next feature of a walk: those before it are not asked for
pub record IsNext (old : Walk) (f : Feature) (new : Walk) : Type 0 where
  pub before : List Feature
  pub order : old.left ≡ before ++ f ∷ new.left
  pub unasked : All (IsUnasked old.asked) before
  pub asked : new.asked ≡ old.asked

-- the end of a walk: those that were left are not asked for
pub record IsEnd (old new : Walk) : Type 0 where
  pub none : new.left ≡ []
  pub unasked : All (IsUnasked old.asked) old.left
  pub asked : new.asked ≡ old.asked
