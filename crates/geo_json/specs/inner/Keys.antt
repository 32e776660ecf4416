-- The keys of each kind of object, as the code names them. Words of inner contracts.
use Rattle.std.specs.Prelude.{ℕ, List, [], ◌∷◌, codes}

-- the keys that a layer may have
abbrev pub layer_keys : List (List ℕ)
layer_keys = codes "name" ∷ codes "features" ∷ []

-- the keys that data may have
abbrev pub data_keys : List (List ℕ)
data_keys = codes "units" ∷ codes "layers" ∷ []

-- the keys that a feature may have
abbrev pub feature_keys : List (List ℕ)
feature_keys = codes "id" ∷ codes "geometry" ∷ codes "attrs" ∷ []

-- the three keys of which a shape has one
abbrev pub geometry_keys : List (List ℕ)
geometry_keys = codes "points" ∷ codes "lines" ∷ codes "polygon" ∷ []

-- the keys that a change may have
abbrev pub change_keys : List (List ℕ)
change_keys = codes "layer" ∷ codes "remove" ∷ codes "put" ∷ []

-- the keys that an update may have
abbrev pub update_keys : List (List ℕ)
update_keys = codes "units" ∷ codes "changes" ∷ []
