-- The limits of data. Code that keeps to them cites the constants of the same names.
use Rattle.std.specs.Prelude.{ℕ}

-- the most bytes of the name of a layer, a style, a raster or a source: more than a name needs, and
-- few enough to be compared at once
abbrev pub most_name_bytes : ℕ
most_name_bytes = 64

-- the most layers of data: each is looked for by its name among all
abbrev pub most_data_layers : ℕ
most_data_layers = 64

-- the most features of a layer, and the most changes of an update: they stay in memory, and a place
-- among them has 32 bits
abbrev pub most_features : ℕ
most_features = 1000000

-- the most points of a feature's shape: all of its edges are gone through for each tile that it is
-- near to
abbrev pub most_points : ℕ
most_points = 65536

-- the most attributes of a feature: each is looked for by its name among all
abbrev pub most_attrs : ℕ
most_attrs = 64

-- the greatest width of a stroke and width or height of a mark, in pixels: what a feature may paint
-- ends so far from its box
abbrev pub most_width : ℕ
most_width = 64
