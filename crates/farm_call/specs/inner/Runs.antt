-- What is done of a command that the words spell.
use Rattle.std.specs.Prelude.{◌≡◌, ◌≤◌, [], Result, Ok, Err}
use Rattle.farm_base.specs.Outside.{Outside}
use Rattle.tile_store.specs.Stores.{StoreTold}
use Rattle.plain_world.specs.World.{IsTile, IsTileSize}
use Rattle.farm_words.specs.declared.command.Command.{Command}
use Rattle.farm_words.specs.declared.command.Command.TheVariants.{Render, Script, Serve, Load, Meta}
use Rattle.farm_words.specs.declared.command.WordsFault.{WordsFault}
use Rattle.farm_words.specs.declared.command.WordsFault.TheVariants as words_fault
use Rattle.exit_status.specs.Ends.{FilesAt}
use Rattle.exit_status.specs.declared.stops.Stop.{Stop}
use Rattle.exit_status.specs.declared.stops.Stop.TheVariants as stop
use Rattle.farm_files.specs.inner.Runs.{Writes}
use Rattle.farm_files.specs.Courses.{script_course, serve_course}
use Rattle.script_command.specs.inner.Runs as script
use Rattle.load_command.specs.Runs.{Loads}
use Rattle.render_command.specs.Courses.{render_course}
use Rattle.render_command.specs.MetaCourses.{meta_course}
use Rattle.farm_call.specs.inner.Serving.{World}
use Rattle.farm_call.specs.inner.Steps as serve
use Rattle.farm_call.specs.declared.left.Left.TheVariants.{Store}

-- what the words make sure of a command: its tile is one of the world, and its size is one that
-- tiles may have; its work is not too large
abbrev pub IsSound : Command → Type 0
IsSound (Render style data_name size tile) = IsTileSize size × IsTile tile
IsSound (Load seed n) = n ≤ 100000
IsSound other = Unit {0}

-- the store is left, as it is said, with no fronts, and the ports are as they were
pub record LeavesStore {D : Type 0} (old new : World D) (runs : D → Type 0) : Type 0 where
  pub store' : D
  pub left_is : new.left ≡ Store store'
  pub no_fronts : new.fronts ≡ []
  pub ports_same : new.ports ≡ old.ports
  pub ran : runs store'

-- the command is done
abbrev pub Runs : {D : Type 0} → (D → Outside StoreTold) → Command → FilesAt → FilesAt → D → World D
    → World D → Result (Unit {0}) Stop → Type 0
Runs state (Render style data_name size tile) files files' store old new end =
    LeavesStore old new (λ store'.
    Writes (render_course style data_name size tile) files files' old.out new.out end
    × (store' ≡ store))
Runs state (Script config lines) files files' store old new end =
    LeavesStore old new (λ store'.
    script.Runs state (script_course config lines) files files' store store' old.out new.out end)
Runs state (Serve config) files files' store old new end =
    serve.Runs state (serve_course config) files files' store old new end
Runs state (Load seed n) files files' store old new end =
    LeavesStore old new (λ store'.
    Loads state seed n store store' old.out new.out end × (files' ≡ files))
Runs state (Meta file) files files' store old new end =
    LeavesStore old new (λ store'.
    Writes (meta_course file) files files' old.out new.out end × (store' ≡ store))

-- the command that was read of the words is done; where none was, nothing is
abbrev pub RunsRead : {D : Type 0} → (D → Outside StoreTold) → Result Command WordsFault → FilesAt
    → FilesAt → D → World D → World D → Result (Unit {0}) Stop → Type 0
RunsRead state (Ok command) files files' store old new end =
    Runs state command files files' store old new end
RunsRead state (Err words_fault.Refused) files files' store old new end =
    (end ≡ Err stop.Words) × (files' ≡ files) × (new ≡ old)
RunsRead state (Err words_fault.NoMemory) files files' store old new end =
    (end ≡ Err stop.NoMemory) × (files' ≡ files) × (new ≡ old)
