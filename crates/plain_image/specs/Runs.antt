-- Elements side by side, changed alike.
use Rattle.std.specs.Prelude.{ℕ, List, ◌++◌, take, drop, map}

-- the list with so many of its elements from the place `start` on changed, and the others as they
-- were
abbrev pub run_changed : {X : Type 0} → (X → X) → ℕ → ℕ → List X → List X
run_changed f start count xs =
    take start xs ++ map f (take count (drop start xs)) ++ drop count (drop start xs)
