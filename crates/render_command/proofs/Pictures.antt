-- The files of a tile, as their course.
use Rattle.std.proofs.Common.{ℕ, List}
use Rattle.std.specs.Prelude.{Result, Ok}
use Rattle.plain_world.specs.declared.world.Tile.{Tile}
use Rattle.plain_shapes.specs.Features.{Layer}
use Rattle.plain_drawing.specs.Styles.{MapStyle}
use Rattle.plain_drawing.specs.Drawing.{drawn_tile}
use Rattle.geo_json.specs.DataTexts.{dataset_in}
use Rattle.exit_status.specs.DataFaults.{data_text}
use Rattle.exit_status.specs.Ends.{FilesAt}
use Rattle.exit_status.specs.declared.stops.Stop.{Stop}
use Rattle.farm_files.specs.Course.{Course, made, ◌>>=◌, file}
use Rattle.farm_files.specs.inner.Follows.{Follows, Says}
use Rattle.farm_files.proofs.Courses.{follows_then}
use Rattle.farm_files.specs.MapCourses.{style_course}
use Rattle.render_command.specs.Courses.{render_course, render_course_by}

-- the tile over the layers that a data file says
abbrev over_data : List ℕ → ℕ → Tile → MapStyle → Course (List ℕ)
over_data data_name size tile style = file dataset_in data_text data_name >>= λ layers. made (drawn_tile style size tile layers)

-- the files made a style and data, and the tile over them is drawn
pub picture_drawn : (style_name data_name : List ℕ) (size : ℕ) (tile : Tile) (old middle new : FilesAt) (style : MapStyle) (layers : List Layer) (result : Result (List ℕ) Stop)
    → Follows (style_course style_name) old middle (Ok style) → Follows (file dataset_in data_text data_name) middle new (Ok layers)
    → Says (made (drawn_tile style size tile layers)) result → Follows (render_course style_name data_name size tile) old new result
unfolding render_course_by
picture_drawn style_name data_name size tile old middle new style layers result first second drawn =
    follows_then (style_course style_name) (over_data data_name size tile) old middle new style result first
    (follows_then (file dataset_in data_text data_name) (λ its. made (drawn_tile style size tile its)) middle new new layers result second (drawn new))
