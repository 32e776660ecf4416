-- One pixel of a picture changed by its centre.
use Rattle.std.specs.Prelude.{ℕ, List, [], ◌∷◌, ◌++◌, take, drop}
use Rattle.plain_world.specs.declared.world.Point.{Point}
use Rattle.plain_shapes.specs.inner.Canvas.{at_centres}

-- the list with the element at a place changed by the centre c
unfoldable pub changed_at : {X : Type 0} → (Point → X → X) → ℕ → Point → List X → List X
changed_at f place c xs = take place xs ++ at_centres f (c ∷ []) (drop place xs)
