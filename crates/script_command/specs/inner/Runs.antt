-- What the code of the command goes through: how its script's end becomes its own, and the files
-- before it.
use Rattle.std.specs.Prelude.{◌≡◌, Bool, true, false, Result, Ok, Err}
use Rattle.farm_base.specs.Outside.{Outside}
use Rattle.tile_store.specs.Stores.{StoreTold}
use Rattle.script_text.specs.declared.ends.ScriptEnd.{ScriptEnd}
use Rattle.script_text.specs.declared.ends.ScriptEnd.TheVariants.{Done, SinkFailed, NoMemory}
use Rattle.exit_status.specs.Ends.{FilesAt, SinkAt}
use Rattle.exit_status.specs.declared.stops.Stop.{Stop}
use Rattle.exit_status.specs.declared.stops.Stop.TheVariants as stop
use Rattle.farm_files.specs.Course.{Course}
use Rattle.farm_files.specs.inner.Follows.{Follows}
use Rattle.farm_files.specs.Inputs.{ScriptInputs}
use Rattle.script_command.specs.Scripts.{Scripts}

-- how the command ends whose script ended so; where all its lines were run, it is told whether a
-- call of the store failed
abbrev pub command_end : Bool → ScriptEnd → Result (Unit {0}) Stop
command_end false Done = Ok tt
command_end true Done = Err stop.StoreFailed
command_end failed SinkFailed = Err stop.SinkFailed
command_end failed NoMemory = Err stop.NoMemory

-- what the files say is run; where they say nothing, nothing is
abbrev pub RunsMade : {D : Type 0} → (D → Outside StoreTold) → D → D → SinkAt → SinkAt
    → Result (Unit {0}) Stop → Result ScriptInputs Stop → Type 0
RunsMade state store store' out out' end (Ok s) = Scripts state s store store' out out' end
RunsMade state store store' out out' end (Err s) = (end ≡ Err s) × (store' ≡ store) × (out' ≡ out)

-- the course of the command's files is followed, and what it makes is run
pub record Runs {D : Type 0} (state : D → Outside StoreTold) (course : Course ScriptInputs)
    (files files' : FilesAt) (store store' : D) (out out' : SinkAt)
    (end : Result (Unit {0}) Stop) : Type 0 where
  pub made : Result ScriptInputs Stop
  pub followed : Follows course files files' made
  pub ran : RunsMade state store store' out out' end made
