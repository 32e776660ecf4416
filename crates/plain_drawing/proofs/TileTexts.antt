-- The text of a tile is its head and its pixels behind it, and so it is as long as the tile's size says.
use Rattle.std.proofs.Common.{◌≡◌, ℕ, ◌+◌, ◌*◌, ◌≤◌, List, [], ◌∷◌, ◌++◌, length, flat_map, refl, append_assoc, length-append, arith}
use Rattle.std.specs.Prelude.{codes}
use Rattle.std.specs.Fmt.{decimal}
use Rattle.std.proofs.lemmas.Fmt.{length-decimal-le}
use Rattle.std.proofs.Math.Nat.{mul-le-mul}
use Rattle.plain_shapes.specs.declared.colour.Colour.{Colour}
use Rattle.plain_shapes.specs.Ppm.{pixel_bytes}
use Rattle.plain_drawing.specs.Drawing.{pixels_text}
use Rattle.plain_drawing.specs.inner.PartTexts.{tile_bytes, most_tile_bytes}

pub text_parts : (cols rows : ℕ) (pixels : List Colour) → pixels_text cols rows pixels ≡ pixels_text cols rows [] ++ flat_map pixel_bytes pixels
text_parts cols rows pixels = simp append_assoc

length_pixels : (pixels : List Colour) → length (flat_map pixel_bytes pixels) ≡ 3 * length pixels
length_pixels [] = refl
length_pixels (c ∷ cs) = let e = length_pixels cs in omega arith

parts_length : (a d b e f : List ℕ) → length (a ++ d ++ b ++ d ++ e ++ f) ≡ length a + length d + length b + length d + length e + length f
parts_length a d b e f = simp length-append

pub length_text : (size : ℕ) (pixels : List Colour) → length pixels ≡ size * size → length (pixels_text size size pixels) ≡ tile_bytes size
length_text size pixels count =
    let digits : List ℕ = decimal size in
    let bytes : List ℕ = flat_map pixel_bytes pixels in
    let parts : length (pixels_text size size pixels) ≡ 3 + length digits + 1 + length digits + 5 + length bytes = parts_length (codes "P6\n") digits (codes " ") (codes "\n255\n") bytes in
    omega (arith, parts, length_pixels pixels, count)

pub few_bytes : (size : ℕ) → size ≤ 512 → tile_bytes size ≤ most_tile_bytes
few_bytes size few =
    let d : length (decimal size) ≤ 3 = length-decimal-le 3 size (omega arith) (omega arith) (omega arith) in
    let s : size * size ≤ 512 * 512 = mul-le-mul few few in
    omega (arith, d, s)
