-- Binary PPM texts (Netpbm's P6) as a grammar over whole texts, and where a text is none.
use Rattle.std.specs.Prelude.{◌≡◌, ◌<◌, ◌≤◌, ◌⊎◌, ℕ, ◌+◌, ◌==◌, not, true, List, [], ◌∷◌, ◌++◌, length, take, flat_map, codes}
use Rattle.std.specs.List.{All, concat, list_all}
use Rattle.farm_base.specs.Digits.{is_digit, number_after}
use Rattle.plain_world.specs.Limits.{most_side}
use Rattle.plain_shapes.specs.Images.{Pixels, IsRaster}
use Rattle.plain_shapes.specs.Ppm.{pixel_bytes}
use Rattle.plain_image.specs.PpmText.{is_whitespace}

-- ---- gaps

-- a blank: a space, a tab, a carriage return or a newline
abbrev pub IsBlank : List ℕ → Type 0
IsBlank text = (b : ℕ) × (text ≡ b ∷ []) × (is_whitespace b ≡ true)

-- One piece or more, one after another, each a blank, or a comment with the newline that ends its
-- line: `#`, any bytes but newlines, and the newline. The last byte is a blank.
abbrev pub IsGap : List ℕ → Type 0
IsGap text = (pieces : List (List ℕ)) × (text ≡ concat pieces) × (1 ≤ length pieces) × All (λ piece.
    IsBlank piece ⊎ ((words : List ℕ) × (piece ≡ 35 ∷ (words ++ 10 ∷ []))
    × (list_all (λ b. not (b == 10)) words ≡ true))) pieces

-- ---- sides

-- a number from 1 on in decimal digits, without leading zeros
pub record IsNumber (text : List ℕ) (n : ℕ) : Type 0 where
  pub first : ℕ
  pub more : List ℕ
  pub spelled : text ≡ first ∷ more
  pub from_one : 49 ≤ first
  pub to_nine : first ≤ 57
  pub digits : list_all is_digit more ≡ true
  pub value : n ≡ number_after 0 text

-- ---- whole texts

-- a PPM text of this image, whose sides are 1 to 4,096
pub record IsPpm (text : List ℕ) (image : Pixels) : Type 0 where
  pub gap_1 : List ℕ
  pub cols : List ℕ
  pub gap_2 : List ℕ
  pub rows : List ℕ
  pub gap_3 : List ℕ
  pub blank : List ℕ
  pub spelled : text ≡ codes "P6" ++ gap_1 ++ cols ++ gap_2 ++ rows ++ gap_3 ++ codes "255" ++ blank
      ++ flat_map pixel_bytes image.pixels
  pub is_gap_1 : IsGap gap_1
  pub is_cols : IsNumber cols image.cols
  pub is_gap_2 : IsGap gap_2
  pub is_rows : IsNumber rows image.rows
  pub is_gap_3 : IsGap gap_3
  pub is_blank : IsBlank blank
  pub raster : IsRaster image.cols image.rows (length image.pixels)

-- ---- faults

-- what stands before the columns
abbrev pub IsBeforeCols : List ℕ → Type 0
IsBeforeCols text = (gap : List ℕ) × (text ≡ codes "P6" ++ gap) × IsGap gap

-- The text begins as a PPM text up to a side, the columns, or the rows behind columns within the
-- limit, and there stand digits of more than 4,096, whatever follows.
pub record IsTooLarge (text : List ℕ) : Type 0 where
  pub front : List ℕ
  pub side : List ℕ
  pub rest : List ℕ
  pub n : ℕ
  pub spelled : text ≡ front ++ side ++ rest
  pub before : IsBeforeCols front ⊎ ((first : List ℕ) × (cols : List ℕ) × (gap : List ℕ) × (m : ℕ)
      × (front ≡ first ++ cols ++ gap)
      × IsBeforeCols first × IsNumber cols m × (m ≤ most_side) × IsGap gap)
  pub number : IsNumber side n
  pub large : most_side < n

-- some PPM text begins so
abbrev pub BeginsPpm : List ℕ → Type 0
BeginsPpm front = (rest : List ℕ) × (image : Pixels) × IsPpm (front ++ rest) image

-- The text is not too large, some PPM text begins with its first n bytes, and none begins with its
-- first n + 1; or it ends there, and is no PPM text.
pub record IsBadAt (text : List ℕ) (n : ℕ) : Type 0 where
  pub in_limits : IsTooLarge text → ⊥
  pub begins : BeginsPpm (take n text)
  pub ends : ((n < length text) × (BeginsPpm (take (n + 1) text) → ⊥))
      ⊎ ((n ≡ length text) × ((image : Pixels) → IsPpm text image → ⊥))
