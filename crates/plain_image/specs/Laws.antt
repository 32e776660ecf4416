-- What `ppm_of` says of a text, by the grammar.
use Rattle.std.specs.Prelude.{◌≡◌, ◌↔◌, ℕ, List, Ok, Err}
use Rattle.plain_shapes.specs.Images.{Pixels}
use Rattle.plain_image.specs.declared.reading.PpmFault.TheVariants.{Bad, TooLarge, NoMemory}
use Rattle.plain_image.specs.PpmText.{ppm_of}
use Rattle.plain_image.specs.PpmGrammar.{IsPpm, IsBadAt, IsTooLarge}

-- a text says an image exactly where it is a PPM text of it
abbrev pub SaysImages : Type 0
SaysImages = (text : List ℕ) (image : Pixels) → (ppm_of text ≡ Ok image) ↔ IsPpm text image

-- a text is bad at n exactly where it leaves the grammar there
abbrev pub SaysBad : Type 0
SaysBad = (text : List ℕ) (n : ℕ) → (ppm_of text ≡ Err (Bad n)) ↔ IsBadAt text n

-- a text is too large exactly where the digits of a side pass the limit
abbrev pub SaysTooLarge : Type 0
SaysTooLarge = (text : List ℕ) → (ppm_of text ≡ Err TooLarge) ↔ IsTooLarge text

-- nothing else is said of a text
abbrev pub SaysNothingElse : Type 0
SaysNothingElse = (text : List ℕ) → ppm_of text ≡ Err NoMemory → ⊥
