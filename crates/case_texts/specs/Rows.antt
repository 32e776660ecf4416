-- The lines of a table.
use Rattle.std.specs.Prelude.{◌≡◌, ℕ, List, ◌++◌, codes, Some}
use Rattle.farm_base.specs.Cuts.{cut_at}

-- the line says that texts stand between these two: it is `in ` and then what its first `%` parts
-- into them
abbrev pub IsFrame : List ℕ → List ℕ → List ℕ → Type 0
IsFrame line before after =
    (around : List ℕ) × (line ≡ codes "in " ++ around) × (cut_at 37 around ≡ Some (before, after))

-- the text stands between these two
abbrev pub Stands : List ℕ → List ℕ → List ℕ → Type 0
Stands text before after = (inner : List ℕ) × (text ≡ before ++ inner ++ after)
