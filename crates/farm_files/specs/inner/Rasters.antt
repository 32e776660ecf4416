-- What a raster file says, as the code reads it: in one, with a fault of either kind. Words of
-- inner contracts.
use Rattle.std.specs.Prelude.{ℕ, List, Option, Result, Ok, Err}
use Rattle.plain_shapes.specs.Images.{Pixels}
use Rattle.plain_drawing.specs.Grids.{Grid}
use Rattle.plain_drawing.specs.Styles.{RasterRef}
use Rattle.plain_image.specs.PpmText.{ppm_of}
use Rattle.plain_image.specs.declared.reading.PpmFault.{PpmFault}
use Rattle.raster_layers.specs.Scales.{grid_or_fault}
use Rattle.raster_layers.specs.declared.grids.GridFault.{GridFault}
use Rattle.exit_status.specs.RasterFaults.{ppm_text, grid_text}
use Rattle.farm_files.specs.MapCourses.{grid_with}
use Rattle.farm_files.specs.declared.rasters.RasterFault.{RasterFault}
use Rattle.farm_files.specs.declared.rasters.RasterFault.TheVariants.{Ppm, Grid as NoGrid}

-- the text of a raster file's fault
abbrev pub raster_text : RasterFault → Option (List ℕ)
raster_text (Ppm fault) = ppm_text fault
raster_text (NoGrid fault) = grid_text fault

-- the grid, or its fault as one of the raster's file
abbrev pub as_raster : Result Grid GridFault → Result Grid RasterFault
as_raster (Ok grid) = Ok grid
as_raster (Err fault) = Err (NoGrid fault)

-- the grid of a raster with this picture, unless a side is too long
abbrev pub with_image : RasterRef → Pixels → Result Grid RasterFault
with_image r image = as_raster (grid_or_fault (grid_with r image))

-- the grid of the picture that was read, or the fault of its PPM text
abbrev pub after_ppm : RasterRef → Result Pixels PpmFault → Result Grid RasterFault
after_ppm r (Ok image) = with_image r image
after_ppm r (Err fault) = Err (Ppm fault)

-- what the bytes of a raster's file say: the grid, or the fault of the PPM text, or that of the
-- grid
abbrev pub raster_in : RasterRef → List ℕ → Result Grid RasterFault
raster_in r bytes = after_ppm r (ppm_of bytes)
