-- What a call is handed, and what it leaves.
use Rattle.std.specs.Prelude.{◌⊎◌, ℕ, List, Result}
use Rattle.farm_base.specs.Outside.{Outside, Rose}
use Rattle.reactor_ports.specs.declared.ends.FrontDone.{FrontDone}
use Rattle.reactor_ports.specs.Told.{PortsTold}
use Rattle.exit_status.specs.Ends.{FilesAt, SinkAt}
use Rattle.exit_status.specs.declared.stops.Stop.{Stop}
use Rattle.farm_runs.specs.declared.each_front.EachFront.{EachFront}
use Rattle.farm_files.specs.Inputs.{ScriptInputs, ServeInputs}
use Rattle.farm_call.specs.declared.left.Left.{Left}
use Rattle.farm_call.specs.declared.left.Left.TheVariants.{Store, Farm}

-- how a call ends: well, or why not
abbrev pub End : Type 0
End = Result (Unit {0}) Stop

-- the words after the program's name, the store, and what the files, out, err and the ports show
pub record CallBefore (D : Type 0) : Type 0 where
  pub words : List (List ℕ)
  pub files : FilesAt
  pub out : SinkAt
  pub err : SinkAt
  pub store : D
  pub ports : EachFront (Outside PortsTold)

-- the exit status, what is left of the store, what the fronts answered, by their numbers, and what
-- the files, out, err and the ports show then
pub record CallAfter (D : Type 0) : Type 0 where
  pub status : ℕ
  pub files : FilesAt
  pub out : SinkAt
  pub err : SinkAt
  pub left : Left D
  pub fronts : List FrontDone
  pub ports : EachFront (Outside PortsTold)

-- the store that is left, or that of the farm that is
abbrev pub store_of : {D : Type 0} → Left D → D
store_of (Store store) = store
store_of (Farm closed) = closed.0.store

-- a port's count of faults rose
abbrev pub PortsRose : EachFront (Outside PortsTold) → EachFront (Outside PortsTold) → Type 0
PortsRose old new =
    Rose old.renderd.faults new.renderd.faults
    ⊎ (Rose old.tiles.faults new.tiles.faults ⊎ Rose old.control.faults new.control.faults)

-- what a command does behind its files: it puts a text, runs a script on a farm, runs generated
-- work on one, or serves one
pub data Work : Type 0 where
  puts : List ℕ → Work
  scripts : ScriptInputs → Work
  loads : ℕ → ℕ → Work
  serves : ServeInputs → Work
