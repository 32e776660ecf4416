-- The limits of configurations. Code that keeps to them cites the constants of the same names.
use Rattle.std.specs.Prelude.{ℕ}

-- the most maps: each keeps its style, with grids of 6 MB at most, and a quadtree of what is shown
abbrev pub most_maps : ℕ
most_maps = 16

-- the greatest zoom, at which a tile is some 150 metres wide at the equator
abbrev pub most_zoom : ℕ
most_zoom = 18

-- the most updates, expiry lists or restyles
abbrev pub most_files : ℕ
most_files = 256

-- the most workers: each has a container of up to 50 MB in hand beside its drawing
abbrev pub most_workers : ℕ
most_workers = 16

-- the most bytes of the path of a socket: the system takes 107
abbrev pub most_path_bytes : ℕ
most_path_bytes = 100
