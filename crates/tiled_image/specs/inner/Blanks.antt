-- The text of a tile of one colour, in parts.
use Rattle.std.specs.Prelude.{ℕ, List, ◌++◌, flat_map, replicate, string_bytes}
use Rattle.tiled_image.specs.declared.tile_texts.Blank.{Blank}

-- its head, and behind it the rows so many times
abbrev pub text_of : Blank → List ℕ
text_of b = string_bytes b.head ++ flat_map (λ bytes. bytes) (replicate b.times b.rows.items)
