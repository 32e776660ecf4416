-- The features that an update names, as they are looked up one by one, and the boxes that are added
-- for them.
use Rattle.std.specs.Prelude.{ℕ, ◌≡◌, nat_eq, List, [], ◌∷◌, ◌++◌, find, flat_map, Option, Some, None}
use Rattle.plain_shapes.specs.Features.{Feature, Layer}
use Rattle.plain_shapes.specs.Data.{Change}
use Rattle.geo_model.specs.declared.bounds.Bounds.{Bounds}
use Rattle.farm_plan.specs.Drawings.{features_in}
use Rattle.reach_box.specs.NamedBoxes.{AreBoxesOf}

-- the feature of the id, where there is one
abbrev pub feature_list : Option Feature → List Feature
feature_list None = []
feature_list (Some f) = f ∷ []

-- the first feature of the id, if there is one
abbrev pub at_id : List Feature → ℕ → List Feature
at_id features id = feature_list (find (λ f. nat_eq f.id id) features)

-- an old feature of the id of one that is put, and the one that is put
abbrev pub at_put : List Feature → Feature → List Feature
at_put features p = at_id features p.id ++ p ∷ []

-- the features that a change names, over the old ones of its layer: those whose ids it removes, and
-- for each that it puts the old one of its id and the new one
abbrev pub met_by : List Feature → Change → List Feature
met_by features c = flat_map (at_id features) c.remove ++ flat_map (at_put features) c.put

-- the features that the changes name, over the old data, one by one
abbrev pub features_met : List Layer → List Change → List Feature
features_met layers changes = flat_map (λ c. met_by (features_in layers c.layer) c) changes

-- more boxes stand at the end, those of the features
pub record Adds (features : List Feature) (old new : List Bounds) : Type 0 where
  pub more : List Bounds
  pub is : new ≡ old ++ more
  pub boxes : AreBoxesOf features more
