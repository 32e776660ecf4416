-- Tiles as their texts, one behind another.
use Rattle.std.specs.Prelude.{◌≡◌, ℕ, zero, suc, ◌+◌, ◌*◌, ◌^◌, ◌≤◌, List, [], ◌∷◌, length, take, drop, flat_map}
use Rattle.plain_shapes.specs.declared.colour.Colour.{Colour}
use Rattle.plain_drawing.specs.Drawing.{pixels_text}
use Rattle.plain_image.specs.PpmText.{colours}

-- the tiles of so many texts, one behind another, each of so many bytes before so many pixels
unfoldable pub tiles_in : ℕ → ℕ → ℕ → List ℕ → List (List Colour)
tiles_in head pixels zero bytes = []
tiles_in head pixels (suc n) bytes = colours (take (pixels * 3) (drop head bytes))
    ∷ tiles_in head pixels n (drop (pixels * 3) (drop head bytes))

-- behind so many bytes stand the texts of so many tiles, and nothing else
pub record AreTexts (before side count head : ℕ) (bytes : List ℕ) : Type 0 where
  pub room : before ≤ 2 ^ 16
  pub some : 1 ≤ side
  pub small : side ≤ 512
  pub few : count ≤ 64
  pub before_fits : before ≤ length bytes
  pub head_is : head ≡ length (pixels_text side side [])
  pub pixels : length bytes ≡ before + count * (head + side * side * 3)
  pub kept : drop before bytes
      ≡ flat_map (pixels_text side side) (tiles_in head (side * side) count (drop before bytes))
