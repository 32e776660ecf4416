-- The course by which the lines of a container are made.
use Rattle.std.specs.Prelude.{ℕ, List}
use Rattle.meta_container.specs.Reading.{listing_found}
use Rattle.exit_status.specs.MetaFaults.{meta_text}
use Rattle.farm_files.specs.Course.{Course, made, ◌>>=◌, file}
use Rattle.render_command.specs.MetaLines.{listing_text}

-- the container is read, and the lines of its listing are made
unfoldable pub meta_course : List ℕ → Course (List ℕ)
meta_course name = do
  listing ← file listing_found meta_text name
  made (listing_text listing)
