-- The keys of each kind of object, as the code names them. Words of inner contracts.
use Rattle.std.specs.Prelude.{ℕ, List, [], ◌∷◌, codes}

-- the keys that a map may have
abbrev pub map_keys : List (List ℕ)
map_keys = codes "name" ∷ codes "style" ∷ codes "tile" ∷ codes "maxzoom" ∷ []

-- the keys that limits may have
abbrev pub limit_keys : List (List ℕ)
limit_keys = codes "prio" ∷ codes "request" ∷ codes "low" ∷ codes "dirty" ∷ codes "bulk" ∷ []

-- the keys that a restyle may have
abbrev pub restyle_keys : List (List ℕ)
restyle_keys = codes "map" ∷ codes "style" ∷ []

-- the keys that a configuration may have
abbrev pub config_keys : List (List ℕ)
config_keys =
    codes "maps" ∷ codes "data" ∷ codes "updates" ∷ codes "expiries" ∷ codes "workers"
    ∷ codes "limits" ∷ codes "renderd" ∷ codes "tiles"
    ∷ codes "control" ∷ codes "restyles" ∷ codes "resume" ∷ []
