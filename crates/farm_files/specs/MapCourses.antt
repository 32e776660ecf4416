-- The courses of the files of a map.
use Rattle.std.specs.Prelude.{ℕ, List, flat_map}
use Rattle.plain_shapes.specs.Images.{Pixels}
use Rattle.plain_shapes.specs.Ppm.{pixel_bytes}
use Rattle.plain_drawing.specs.Grids.{Grid}
use Rattle.plain_drawing.specs.Styles.{RasterRef, MapStyle}
use Rattle.style_objects.specs.TextReadings.{TextReading, text_reading}
use Rattle.style_objects.specs.Tables.{style_by}
use Rattle.raster_layers.specs.Scales.{grid_or_fault}
use Rattle.exit_status.specs.RasterFaults.{ppm_text, grid_text}
use Rattle.exit_status.specs.StyleFaults.{style_text}
use Rattle.farm_files.specs.Course.{Course, made, ◌>>=◌, judged, file, each}

-- the grid of a raster with this picture: its name, place and pixel, the picture's sides and the
-- three bytes of each of its pixels
abbrev pub grid_with : RasterRef → Pixels → Grid
grid_with r image = record {
  name = r.name;
  west = r.west;
  north = r.north;
  pixel = r.pixel;
  cols = image.cols;
  rows = image.rows;
  bytes = flat_map pixel_bytes image.pixels;
}

-- a raster's file says a picture, where pictures are read so, and this the grid of the raster,
-- unless a side is too long
unfoldable pub raster_course_by : TextReading → RasterRef → Course Grid
raster_course_by says r = file says.picture ppm_text r.file >>= λ image. judged grid_text r.file
    (grid_or_fault (grid_with r image))

-- a style's file says a style, where texts are read so, and then the files of its rasters, in
-- order, say the style's grids
unfoldable pub style_course_by : TextReading → List ℕ → Course MapStyle
style_course_by says name = do
  style ← file (style_by says) style_text name
  grids ← each (raster_course_by says) style.rasters
  made (record style { grids = grids })

-- the same, where texts are read by the functions that go over them
abbrev pub raster_course : RasterRef → Course Grid
raster_course r = raster_course_by text_reading r

abbrev pub style_course : List ℕ → Course MapStyle
style_course name = style_course_by text_reading name
