-- Pieces of rows, the pixels that a list of them covers, and the bits that are told by it.
use Rattle.std.specs.Prelude.{◌≡◌, ℕ, ◌+◌, ◌*◌, ◌/◌, ◌%◌, ◌^◌, ◌<◌, ◌≤◌, Bool, false, ◌&&◌, nat_eq, nat_le, List, length, slice_index_or, All, ◌||◌}
use Rattle.std.specs.List.{list_any}
use Rattle.plain_world.specs.declared.world.Point.{Point}
use Rattle.plain_world.specs.declared.world.Window.{Window}
use Rattle.plain_world.specs.World.{centre}
use Rattle.plain_shapes.specs.Images.{Bits}
use Rattle.tile_render.specs.declared.pieces.Piece.{Piece}
use Rattle.tile_render.specs.declared.pieces.Pieces.{Pieces}

-- the row of a piece, and the column that it begins at
abbrev pub row_of : Piece → ℕ
row_of p = p.place / 2 ^ 16

abbrev pub start_of : Piece → ℕ
start_of p = p.place % 2 ^ 16

-- the piece of a row from the column `start` on and before the column `end`; columns lie below 2 ^
-- 16
abbrev pub piece_at : ℕ → ℕ → ℕ → Piece
piece_at row start end = record { place = row * 2 ^ 16 + start; end = end }

-- the piece lies in one of so many rows of so many columns
pub record IsPiece (cols rows : ℕ) (p : Piece) : Type 0 where
  pub row : row_of p < rows
  pub order : start_of p ≤ p.end
  pub end : p.end ≤ cols

-- whether the piece has the pixel in row j and column i
unfoldable pub has : ℕ → ℕ → Piece → Bool
has j i p = nat_eq j (row_of p) && (nat_le (start_of p) i && nat_le (i + 1) p.end)

-- whether one of the pieces has it
abbrev pub covered : List Piece → ℕ → ℕ → Bool
covered pieces j i = list_any (has j i) pieces

-- the order of pieces: by their rows, and in a row by where they start
abbrev pub place : Piece → ℕ
place p = p.place

-- the piece q begins where p ends, or behind it
pub record IsBefore (p q : Piece) : Type 0 where
  pub row : row_of p ≤ row_of q
  pub col : row_of q ≤ row_of p → p.end ≤ start_of q

-- the pieces are in order, and no two of them have a pixel in common
pub record Apart (pieces : List Piece) : Type 0 where
  pub at : (x y : ℕ) (d : Piece) → x < y → y < length pieces
      → IsBefore (slice_index_or pieces x d) (slice_index_or pieces y d)

-- the pieces lie in so many rows of so many columns, and the bits say which of their pixels are
-- covered
pub record ToldBits (cols rows : ℕ) (pieces : List Piece) (bits : List Bool) : Type 0 where
  pub inside : All (IsPiece cols rows) pieces
  pub at : (j i : ℕ) → j < rows → i < cols
      → slice_index_or bits (j * cols + i) false ≡ covered pieces j i

-- the bits are those of the pixels that are covered, unless memory was wanting
pub record ShowsPieces (now : Pieces) (bits : Bits) : Type 0 where
  pub cols : bits.cols ≡ now.cols
  pub rows : bits.rows ≡ now.rows
  pub count : length bits.bits ≡ now.rows * now.cols
  pub told : now.is_short ≡ false → ToldBits now.cols now.rows now.list.items bits.bits

-- the pixels of a piece are covered too
pub record IsAdded (piece : Piece) (old new : Pieces) : Type 0 where
  pub same : (j i : ℕ) → covered new.list.items j i ≡ (covered old.list.items j i || has j i piece)
  pub inside : (cols rows : ℕ) → All (IsPiece cols rows) old.list.items → IsPiece cols rows piece
      → All (IsPiece cols rows) new.list.items
  pub short : new.is_short ≡ old.is_short

-- the pieces are apart, and are the window's pixels whose centres are members
pub record PiecesTell (w : Window) (member : Point → Bool) (pieces : List Piece) : Type 0 where
  pub inside : All (IsPiece w.cols w.rows) pieces
  pub apart : Apart pieces
  pub at : (j i : ℕ) → j < w.rows → i < w.cols → member (centre w i j) ≡ covered pieces j i
