-- The places at which edges are crossed: how many of them a row has up to a column says, by parity,
-- whether that pixel's centre is a member.
use Rattle.std.specs.Prelude.{◌≡◌, ◌≢◌, ℕ, ◌+◌, ◌*◌, ◌/◌, ◌<◌, ◌≤◌, min, max, Bool, true, false, not, ◌&&◌, nat_le, List, [], ◌∷◌, count_by, All}
use Rattle.plain_world.specs.declared.world.Point.{Point}
use Rattle.plain_world.specs.declared.world.Window.{Window}
use Rattle.plain_world.specs.World.{InWorld, centre}
use Rattle.plain_shapes.specs.Rings.{counts, is_odd}
use Rattle.raster_core.specs.declared.edges.Edge.{Edge}

-- b, turned round where a is true
abbrev pub flip : Bool → Bool → Bool
flip true b = not b
flip false b = b

-- the place lies in row j, in column i or before it, where a row has so many columns
abbrev pub is_up_to : ℕ → ℕ → ℕ → ℕ → Bool
is_up_to cols j i place = nat_le (j * cols) place && nat_le place (j * cols + i)

-- whether row j has an odd number of the places up to column i
abbrev pub parity_at : ℕ → List ℕ → ℕ → ℕ → Bool
parity_at cols places j i = is_odd (count_by (is_up_to cols j i) places)

-- all places lie in the window
abbrev pub AllInside : Window → List ℕ → Type 0
AllInside w places = All (λ place. place < w.rows * w.cols) places

-- which pixels, by row and column, have a member as their centre
abbrev pub at_centres : Window → (Point → Bool) → ℕ → ℕ → Bool
at_centres w member j i = member (centre w i j)

-- each parity is turned round exactly at the members, pixels by row and column
pub record Toggled (w : Window) (member : ℕ → ℕ → Bool) (old new : List ℕ) : Type 0 where
  pub inside : AllInside w old → AllInside w new
  pub at : (j i : ℕ) → j < w.rows → i < w.cols
      → parity_at w.cols new j i ≡ flip (member j i) (parity_at w.cols old j i)

-- in one row each parity is turned round exactly at the members, and the other rows stay
pub record RowToggled (w : Window) (member : ℕ → ℕ → Bool) (row : ℕ)
    (old new : List ℕ) : Type 0 where
  pub inside : AllInside w old → AllInside w new
  pub at : (i : ℕ) → i < w.cols
      → parity_at w.cols new row i ≡ flip (member row i) (parity_at w.cols old row i)
  pub others : (j i : ℕ) → j ≢ row → i < w.cols
      → parity_at w.cols new j i ≡ parity_at w.cols old j i

-- in the rows before one each parity is turned round exactly at the members, and the other rows
-- stay
pub record RowsToggled (w : Window) (member : ℕ → ℕ → Bool) (rows : ℕ)
    (old new : List ℕ) : Type 0 where
  pub inside : AllInside w old → AllInside w new
  pub done : (j i : ℕ) → j < rows → j < w.rows → i < w.cols
      → parity_at w.cols new j i ≡ flip (member j i) (parity_at w.cols old j i)
  pub rest : (j i : ℕ) → rows ≤ j → i < w.cols → parity_at w.cols new j i ≡ parity_at w.cols old j i

-- as many places of each kind, by parity
pub record SameParities (old new : List ℕ) : Type 0 where
  pub parity : (p : ℕ → Bool) → is_odd (count_by p new) ≡ is_odd (count_by p old)

-- the places of the bits that are set, where the first bit is that of the place n
abbrev pub set_places : ℕ → List Bool → List ℕ
set_places n [] = []
set_places n (true ∷ bits) = n ∷ set_places (n + 1) bits
set_places n (false ∷ bits) = set_places (n + 1) bits

-- the first column whose centre lies at x or past it, or the number of columns
abbrev pub IsFirst : Window → ℕ → ℕ → Type 0
IsFirst w x col =
    (i : ℕ) → i < w.cols → nat_le col i ≡ nat_le x (w.west + i * w.pixel + w.pixel / 2)

-- the first row whose centre lies at y or past it, or the number of rows
abbrev pub IsFirstRow : Window → ℕ → ℕ → Type 0
IsFirstRow w y row =
    (j : ℕ) → j < w.rows → nat_le row j ≡ nat_le y (w.north + j * w.pixel + w.pixel / 2)

-- the edge's ends lie in the world, the upper one first, and the columns and rows are the first at
-- its west, east, upper and lower end
pub record IsEdge (w : Window) (e : Edge) : Type 0 where
  pub a_in : InWorld e.a
  pub b_in : InWorld e.b
  pub down : e.a.y ≤ e.b.y
  pub west : IsFirst w (min e.a.x e.b.x) e.west
  pub east : IsFirst w (max e.a.x e.b.x) e.east
  pub few : e.west ≤ w.cols
  pub top : IsFirstRow w e.a.y e.top
  pub bottom : IsFirstRow w e.b.y e.bottom
  pub few_rows : e.bottom ≤ w.rows

-- an odd number of the edges counts for the point
abbrev pub odd_edges : List (Point × Point) → Point → Bool
odd_edges edges c = is_odd (count_by (λ e. counts e c) edges)
