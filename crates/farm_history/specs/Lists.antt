-- Words for lists: what holds of each item, numbers that differ, and the list without the first
-- item that passes a test.
use Rattle.std.specs.Prelude.{ℕ, Bool, false, ◌==◌, if◌then◌else◌, ◌≡◌, List, [], ◌∷◌}
use Rattle.std.specs.List.{list_any}

-- P holds of each of the list
abbrev pub Each : {X : Type 0} → (X → Type 0) → List X → Type 0
Each P [] = Unit {0}
Each P (x ∷ xs) = P x × Each P xs

-- no two of the list have one number
abbrev pub Differ : {X : Type 0} → (X → ℕ) → List X → Type 0
Differ number [] = Unit {0}
Differ number (x ∷ xs) = (list_any (λ y. number y == number x) xs ≡ false) × Differ number xs

-- the list without the first that passes the test
unfoldable pub without_first : {X : Type 0} → (X → Bool) → List X → List X
without_first q [] = []
without_first q (x ∷ xs) = if q x then xs else x ∷ without_first q xs
