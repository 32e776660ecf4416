-- Square tiles and the image that they make. Words of inner contracts: no colour of a drawing is
-- defined by them.
use Rattle.std.specs.Prelude.{◌≡◌, ℕ, ◌+◌, ◌*◌, ◌/◌, ◌%◌, ◌^◌, ◌≤◌, List, [], length, map, All, slice_index_or}
use Rattle.std.specs.List.{range_with_len}
use Rattle.plain_world.specs.World.{IsTileSize}
use Rattle.plain_shapes.specs.declared.colour.Colour.{Colour}

-- tiles of so many pixels a side, by rows each, whose PPM texts stand one behind another, and how
-- many other bytes stand before the texts
pub record Texts : Type 0 where
  pub before : ℕ
  pub side : ℕ
  pub tiles : List (List Colour)

-- the colour in column i and row j of the image that the tiles make, so many side by side, where
-- they come by columns
abbrev pub colour_in : ℕ → ℕ → List (List Colour) → ℕ → ℕ → Colour
colour_in side across tiles i j =
    slice_index_or (slice_index_or tiles (i / side * across + j / side) [])
    (j % side * side + i % side) (record { r = 0; g = 0; b = 0 })

-- all colours of that image, row by row
unfoldable pub joined : ℕ → ℕ → List (List Colour) → List Colour
joined side across tiles =
    map (λ k. colour_in side across tiles (k % (side * across)) (k / (side * across)))
    (range_with_len 0 (side * across * (side * across)))

-- the tiles are whole, of a named size, which is this power of two, and make a square of so many
-- side by side
pub record IsTiled (shift across : ℕ) (texts : Texts) : Type 0 where
  pub size : IsTileSize texts.side
  pub power : texts.side ≡ 2 ^ shift
  pub small : shift ≤ 9
  pub some : 1 ≤ across
  pub few : across ≤ 8
  pub count : length texts.tiles ≡ across * across
  pub whole : All (λ tile. length tile ≡ texts.side * texts.side) texts.tiles
