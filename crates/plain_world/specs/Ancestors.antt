-- Ancestors in the quadtree of squares.
use Rattle.std.specs.Prelude.{ℕ, ◌+◌, ◌/◌, ◌^◌, ◌≡◌}
use Rattle.plain_world.specs.declared.world.Square.{Square}

-- a is b or an ancestor of b: it stands some zooms higher, and each zoom up halves column and row
abbrev pub IsOver : Square → Square → Type 0
IsOver a b = (d : ℕ) × (b.z ≡ a.z + d) × (b.x / 2 ^ d ≡ a.x) × (b.y / 2 ^ d ≡ a.y)
