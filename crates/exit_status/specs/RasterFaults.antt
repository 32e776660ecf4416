-- The texts of the faults of a raster file; want of memory has none.
use Rattle.std.specs.Prelude.{ℕ, List, ◌++◌, Option, Some, None, codes}
use Rattle.std.specs.Fmt.{decimal}
use Rattle.plain_image.specs.declared.reading.PpmFault.{PpmFault}
use Rattle.plain_image.specs.declared.reading.PpmFault.TheVariants as ppm
use Rattle.raster_layers.specs.declared.grids.GridFault.{GridFault}
use Rattle.raster_layers.specs.declared.grids.GridFault.TheVariants as grid

-- the text of a fault of a raster's PPM text
abbrev pub ppm_text : PpmFault → Option (List ℕ)
ppm_text (ppm.Bad offset) = Some (codes "ppm 1 at " ++ decimal offset)
ppm_text ppm.TooLarge = Some (codes "ppm 2")
ppm_text ppm.NoMemory = None

-- the text of a fault of the grid that a raster file makes
abbrev pub grid_text : GridFault → Option (List ℕ)
grid_text grid.Size = Some (codes "grid 1")
