-- Lists in which each item is told with those before it.
use Rattle.std.specs.Prelude.{◌&&◌, Bool, true, List, [], ◌∷◌, ◌++◌}

-- each passes a test with those before it: the shape of "no earlier one has its name"
abbrev pub each_after : {A : Type 0} → (List A → A → Bool) → List A → List A → Bool
each_after p before [] = true
each_after p before (x ∷ xs) = p before x && each_after p (before ++ x ∷ []) xs
