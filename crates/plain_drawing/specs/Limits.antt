-- The limits of map styles. Code that keeps to them cites the constants of the same names.
use Rattle.std.specs.Prelude.{ℕ}

-- the most styles of a map: each is looked for by its name among all
abbrev pub most_styles : ℕ
most_styles = 256

-- the most rules of a style: each is asked for every feature
abbrev pub most_rules : ℕ
most_rules = 256

-- the most symbolizers of a rule
abbrev pub most_symbolizers : ℕ
most_symbolizers = 16

-- the most layers of a map
abbrev pub most_map_layers : ℕ
most_map_layers = 64

-- the most rasters of a map: each of their grids stays in memory with 3 MB at most
abbrev pub most_rasters : ℕ
most_rasters = 2

-- the most bytes of the name of a raster's file
abbrev pub most_file_bytes : ℕ
most_file_bytes = 100

-- the most columns, and the most rows, of a grid
abbrev pub most_grid_side : ℕ
most_grid_side = 1024
