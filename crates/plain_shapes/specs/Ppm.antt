-- An image as a binary PPM text (Netpbm's P6).
use Rattle.std.specs.Prelude.{ℕ, List, [], ◌∷◌, ◌++◌, flat_map, codes}
use Rattle.std.specs.Fmt.{decimal}
use Rattle.plain_shapes.specs.declared.colour.Colour.{Colour}

-- the three bytes of a pixel
abbrev pub pixel_bytes : Colour → List ℕ
pixel_bytes c = c.r ∷ c.g ∷ c.b ∷ []

-- P6, the columns, the rows and the greatest value 255 in decimal, then the pixels by rows
abbrev pub ppm : ℕ → ℕ → List Colour → List ℕ
ppm cols rows pixels = codes "P6\n" ++ decimal cols ++ codes " " ++ decimal rows ++ codes "\n255\n"
    ++ flat_map pixel_bytes pixels
