-- What the words of a command line ask for.
use Rattle.std.specs.Prelude.{◌≡◌, ◌⊎◌, ℕ, List, Some}
use Rattle.farm_words.specs.Forms.{Spells}
use Rattle.farm_words.specs.Values.{values_of, ArePlain}
use Rattle.farm_words.specs.declared.command.Command.{Command}
use Rattle.farm_words.specs.declared.command.Command.TheVariants.{Render, Script, Serve, Load, Meta}
use Rattle.farm_files.specs.Course.{Course, made, ◌>>=◌}
use Rattle.style_objects.specs.TextReadings.{TextReading, SaysGrammar}
use Rattle.farm_files.specs.Courses.{script_course_by, serve_course_by}
use Rattle.render_command.specs.Courses.{render_course_by}
use Rattle.render_command.specs.MetaCourses.{meta_course}
use Rattle.farm_call.specs.Call.{Work, puts, scripts, loads, serves}

-- The words ask for the command. Where none is empty or begins with `-` they spell it themselves,
-- and else the values do that clap reads of them.
pub record AsksFor (words : List (List ℕ)) (command : Command) : Type 0 where
  pub values : List (List ℕ)
  pub read : (ArePlain words × (values ≡ words))
      ⊎ (¬ (ArePlain words) × (values_of words ≡ Some values))
  pub spelled : Spells command values

-- the course of a command's files, their texts being what the grammars say, and the work
-- that they make
abbrev pub IsCourse : Command → Course Work → Type 0
IsCourse (Render style data_name size tile) course = (says : TextReading) × SaysGrammar says
    × (course ≡ (render_course_by says style data_name size tile >>= λ text. made (puts text)))
IsCourse (Script config script) course = (says : TextReading) × SaysGrammar says
    × (course ≡ (script_course_by says config script >>= λ s. made (scripts s)))
IsCourse (Serve config) course = (says : TextReading) × SaysGrammar says
    × (course ≡ (serve_course_by says config >>= λ s. made (serves s)))
IsCourse (Load seed n) course = course ≡ made (loads seed n)
IsCourse (Meta file) course = course ≡ (meta_course file >>= λ text. made (puts text))

-- the words ask for the work that this course makes
abbrev pub Asks : List (List ℕ) → Course Work → Type 0
Asks words course = (command : Command) × AsksFor words command × IsCourse command course
