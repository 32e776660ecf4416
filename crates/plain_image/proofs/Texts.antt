-- A PPM text is its head and the pixels behind it.
use Rattle.std.proofs.Common.{◌≡◌, ℕ, List, [], ◌++◌, flat_map, append_assoc}
use Rattle.plain_shapes.specs.declared.colour.Colour.{Colour}
use Rattle.plain_shapes.specs.Ppm.{pixel_bytes, ppm}

pub ppm_head : (cols rows : ℕ) (pixels : List Colour) → ppm cols rows pixels ≡ ppm cols rows [] ++ flat_map pixel_bytes pixels
ppm_head cols rows pixels = simp append_assoc
