-- The files of the commands that run a farm, step by step.
use Rattle.std.proofs.Common.{◌≡◌, ℕ, inl, List, refl, ap}
use Rattle.std.specs.Prelude.{Ok}
use Rattle.farm_config.specs.Configs.{Config}
use Rattle.farm_config.specs.Tables.{config_in}
use Rattle.script_lines.specs.Scripts.{script_in}
use Rattle.script_lines.specs.declared.script.ScriptLine.{ScriptLine}
use Rattle.exit_status.specs.ConfigFaults.{config_text}
use Rattle.exit_status.specs.LineFaults.{script_text}
use Rattle.exit_status.specs.Ends.{FilesAt}
use Rattle.exit_status.specs.declared.stops.Stop.{Stop}
use Rattle.farm_files.specs.Course.{Course, made, ◌>>=◌, file}
use Rattle.farm_files.specs.inner.Follows.{Follows}
use Rattle.farm_files.proofs.Courses.{ended, follows_then, follows_stop}
use Rattle.farm_files.specs.Inputs.{FarmInputs, ScriptInputs, ServeInputs}
use Rattle.farm_files.specs.Addresses.{addressed_in}
use Rattle.farm_files.specs.Courses.{inputs_course, script_course, serve_course, script_course_by, serve_course_by}

-- ---- a script

abbrev with_inputs : List ℕ → FarmInputs → Course ScriptInputs
with_inputs name inputs = file script_in script_text name >>= λ script. made (record { inputs = inputs; script = script })

abbrev with_config : List ℕ → Config → Course ScriptInputs
with_config name config = inputs_course config >>= with_inputs name

pub script_read : (config_name name : List ℕ) (config : Config) (inputs : FarmInputs) (script : List ScriptLine) (whole : ScriptInputs) (f0 f1 f2 f3 : FilesAt)
    → Follows (file config_in config_text config_name) f0 f1 (Ok config) → Follows (inputs_course config) f1 f2 (Ok inputs) → Follows (file script_in script_text name) f2 f3 (Ok script)
    → whole ≡ record { inputs = inputs; script = script } → Follows (script_course config_name name) f0 f3 (Ok whole)
unfolding script_course_by
script_read config_name name config inputs script whole f0 f1 f2 f3 first second third has =
    follows_then (file config_in config_text config_name) (with_config name) f0 f1 f3 config (Ok whole) first
    (follows_then (inputs_course config) (with_inputs name) f1 f2 f3 inputs (Ok whole) second
    (follows_then (file script_in script_text name) (λ s. made (record { inputs = inputs; script = s })) f2 f3 f3 script (Ok whole) third (inl (ap Ok has), refl)))

pub script_unread : (config_name name : List ℕ) (config : Config) (inputs : FarmInputs) (f0 f1 f2 f3 : FilesAt) (s : Stop)
    → Follows (file config_in config_text config_name) f0 f1 (Ok config) → Follows (inputs_course config) f1 f2 (Ok inputs) → Follows (file script_in script_text name) f2 f3 (ended {A = List ScriptLine} s)
    → Follows (script_course config_name name) f0 f3 (ended {A = ScriptInputs} s)
unfolding script_course_by
script_unread config_name name config inputs f0 f1 f2 f3 s first second third =
    follows_then (file config_in config_text config_name) (with_config name) f0 f1 f3 config (ended {A = ScriptInputs} s) first
    (follows_then (inputs_course config) (with_inputs name) f1 f2 f3 inputs (ended {A = ScriptInputs} s) second
    (follows_stop (List ScriptLine) ScriptInputs (file script_in script_text name) (λ script. made (record { inputs = inputs; script = script })) f2 f3 s third))

pub script_inputs_stop : (config_name name : List ℕ) (config : Config) (f0 f1 f2 : FilesAt) (s : Stop)
    → Follows (file config_in config_text config_name) f0 f1 (Ok config) → Follows (inputs_course config) f1 f2 (ended {A = FarmInputs} s) → Follows (script_course config_name name) f0 f2 (ended {A = ScriptInputs} s)
unfolding script_course_by
script_inputs_stop config_name name config f0 f1 f2 s first second =
    follows_then (file config_in config_text config_name) (with_config name) f0 f1 f2 config (ended {A = ScriptInputs} s) first
    (follows_stop FarmInputs ScriptInputs (inputs_course config) (with_inputs name) f1 f2 s second)

pub script_config_stop : (config_name name : List ℕ) (f0 f1 : FilesAt) (s : Stop) → Follows (file config_in config_text config_name) f0 f1 (ended {A = Config} s) → Follows (script_course config_name name) f0 f1 (ended {A = ScriptInputs} s)
unfolding script_course_by
script_config_stop config_name name f0 f1 s first = follows_stop Config ScriptInputs (file config_in config_text config_name) (with_config name) f0 f1 s first

-- ---- a farm that listens

abbrev served : Config → Course ServeInputs
served config = inputs_course config >>= λ inputs. made (record { config = config; inputs = inputs })

pub serve_read : (name : List ℕ) (config : Config) (inputs : FarmInputs) (whole : ServeInputs) (f0 f1 f2 : FilesAt)
    → Follows (file addressed_in config_text name) f0 f1 (Ok config) → Follows (inputs_course config) f1 f2 (Ok inputs) → whole ≡ record { config = config; inputs = inputs }
    → Follows (serve_course name) f0 f2 (Ok whole)
unfolding serve_course_by
serve_read name config inputs whole f0 f1 f2 first second has =
    follows_then (file addressed_in config_text name) served f0 f1 f2 config (Ok whole) first
    (follows_then (inputs_course config) (λ i. made (record { config = config; inputs = i })) f1 f2 f2 inputs (Ok whole) second (inl (ap Ok has), refl))

pub serve_inputs_stop : (name : List ℕ) (config : Config) (f0 f1 f2 : FilesAt) (s : Stop)
    → Follows (file addressed_in config_text name) f0 f1 (Ok config) → Follows (inputs_course config) f1 f2 (ended {A = FarmInputs} s) → Follows (serve_course name) f0 f2 (ended {A = ServeInputs} s)
unfolding serve_course_by
serve_inputs_stop name config f0 f1 f2 s first second =
    follows_then (file addressed_in config_text name) served f0 f1 f2 config (ended {A = ServeInputs} s) first
    (follows_stop FarmInputs ServeInputs (inputs_course config) (λ inputs. made (record { config = config; inputs = inputs })) f1 f2 s second)

pub serve_config_stop : (name : List ℕ) (f0 f1 : FilesAt) (s : Stop) → Follows (file addressed_in config_text name) f0 f1 (ended {A = Config} s) → Follows (serve_course name) f0 f1 (ended {A = ServeInputs} s)
unfolding serve_course_by
serve_config_stop name f0 f1 s first = follows_stop Config ServeInputs (file addressed_in config_text name) served f0 f1 s first
