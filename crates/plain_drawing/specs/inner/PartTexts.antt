-- Parts of a picture as texts. Words of inner contracts.
use Rattle.std.specs.Prelude.{ℕ, ◌+◌, ◌*◌, List, length, map, flat_map}
use Rattle.std.specs.List.{range_with_len}
use Rattle.std.specs.Fmt.{decimal}
use Rattle.plain_shapes.specs.Images.{Pixels}
use Rattle.plain_shapes.specs.inner.Canvas.{cut_of}
use Rattle.plain_drawing.specs.Drawing.{pixels_text}

-- the text of the part of a picture so many tiles from its west and north edge
abbrev pub part_text : Pixels → ℕ → ℕ → ℕ → List ℕ
part_text image size col row =
    pixels_text size size (cut_of image (col * size) (row * size) size size).pixels

-- a column of such texts
abbrev pub column_texts : Pixels → ℕ → ℕ → ℕ → List (List ℕ)
column_texts image size across col =
    map (λ row. part_text image size col row) (range_with_len 0 across)

-- all parts of a picture of so many tiles across, by columns
abbrev pub part_texts : Pixels → ℕ → ℕ → List (List ℕ)
part_texts image size across = flat_map (column_texts image size across) (range_with_len 0 across)

-- how many bytes the text of a tile of this size has, and the most that one can have
abbrev pub tile_bytes : ℕ → ℕ
tile_bytes size = 9 + 2 * length (decimal size) + 3 * (size * size)

abbrev pub most_tile_bytes : ℕ
most_tile_bytes = 786447
