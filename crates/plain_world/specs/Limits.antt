-- The limit of pictures. Code that keeps to it cites the constant of the same name.
use Rattle.std.specs.Prelude.{ℕ}

-- the most columns, and the most rows, of a window, a mask or an image: a metatile of 8 by 8 tiles
-- of 512 pixels has as many
abbrev pub most_side : ℕ
most_side = 4096
