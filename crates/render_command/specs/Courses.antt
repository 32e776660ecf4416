-- The course by which the text of a tile is made.
use Rattle.std.specs.Prelude.{ℕ, List}
use Rattle.plain_world.specs.declared.world.Tile.{Tile}
use Rattle.plain_drawing.specs.Drawing.{drawn_tile}
use Rattle.geo_json.specs.DataTexts.{dataset_in}
use Rattle.style_objects.specs.TextReadings.{TextReading, text_reading}
use Rattle.exit_status.specs.DataFaults.{data_text}
use Rattle.farm_files.specs.Course.{Course, made, ◌>>=◌, file}
use Rattle.farm_files.specs.MapCourses.{style_course_by}

-- the style with its rasters is read, where texts are read so, and then the data, and the tile of
-- these is made
unfoldable pub render_course_by : TextReading → List ℕ → List ℕ → ℕ → Tile → Course (List ℕ)
render_course_by says style_name data_name size tile = do
  style ← style_course_by says style_name
  layers ← file dataset_in data_text data_name
  made (drawn_tile style size tile layers)

-- the same, where texts are read by the functions that go over them
abbrev pub render_course : List ℕ → List ℕ → ℕ → Tile → Course (List ℕ)
render_course style_name data_name size tile =
    render_course_by text_reading style_name data_name size tile
