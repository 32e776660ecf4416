-- Even-odd filling: which points lie inside the rings of a polygon.
use Rattle.std.specs.Prelude.{ℕ, ◌-◌, ◌%◌, ◌==◌, Bool, ◌&&◌, nat_le, nat_lt, if◌then◌else◌, List, [], ◌∷◌, length, flat_map, count_by, slice_get, option_map, unwrap_or, ℤ, pos, ◌-ℤ◌, ◌*ℤ◌, int_le}
use Rattle.plain_world.specs.declared.world.Point.{Point}

-- a difference that may be below zero
abbrev pub less : ℕ → ℕ → ℤ
less m n = pos m -ℤ pos n

-- an edge that runs from a down to b counts at c where c lies beside it and not to the west of it:
-- its upper end counts, its lower one does not
abbrev pub counts_down : Point → Point → Point → Bool
counts_down a b c = nat_le a.y c.y && nat_lt c.y b.y
    && int_le (less c.y a.y *ℤ less b.x a.x) (less c.x a.x *ℤ less b.y a.y)

-- an edge counts at c by its ends named so that the upper one comes first
abbrev pub counts : Point × Point → Point → Bool
counts e c = if nat_le e.0.y e.1.y then counts_down e.0 e.1 c else counts_down e.1 e.0 c

-- the edges along a list of points, from the point before the first
abbrev pub edges_from : Point → List Point → List (Point × Point)
edges_from before [] = []
edges_from before (p ∷ ps) = (before, p) ∷ edges_from p ps

-- a ring's edges: it is closed from its last point to its first
abbrev pub ring_edges : List Point → List (Point × Point)
ring_edges ps =
    unwrap_or (option_map (λ last. edges_from last ps) (slice_get ps (length ps - 1))) []

-- how many edges of all rings count at c
abbrev pub counting : List (List Point) → Point → ℕ
counting rings c = count_by (λ e. counts e c) (flat_map ring_edges rings)

-- the number is odd
abbrev pub is_odd : ℕ → Bool
is_odd n = n % 2 == 1

-- c lies in the polygon where an odd number of edges of all its rings count; so left and top edges
-- belong to it, right and bottom ones do not
abbrev pub in_rings : List (List Point) → Point → Bool
in_rings rings c = is_odd (counting rings c)
