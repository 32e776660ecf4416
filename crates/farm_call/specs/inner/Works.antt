-- What work does to the world that a call works on.
use Rattle.std.specs.Prelude.{◌≡◌, Result}
use Rattle.farm_base.specs.Outside.{Outside}
use Rattle.tile_store.specs.Stores.{StoreTold}
use Rattle.exit_status.specs.Ends.{PutsAll}
use Rattle.exit_status.specs.declared.stops.Stop.{Stop}
use Rattle.script_command.specs.Scripts.{Scripts}
use Rattle.load_command.specs.Runs.{Loads}
use Rattle.farm_call.specs.inner.Serving.{World, Serves, over}
use Rattle.farm_call.specs.declared.left.Left.TheVariants.{Store}
use Rattle.farm_call.specs.Call.{CallBefore, CallAfter, Work, puts, scripts, loads, serves}

-- the world of a call before it, and after it
abbrev pub world_before : {D : Type 0} → CallBefore D → World D
world_before was = over was.out was.store was.ports

abbrev pub world_after : {D : Type 0} → CallAfter D → World D
world_after is = record { out = is.out; left = is.left; fronts = is.fronts; ports = is.ports }

-- no fronts were started, and no port was touched
abbrev pub NoFronts : {D : Type 0} → World D → World D → Type 0
NoFronts old new = (new.fronts ≡ old.fronts) × (new.ports ≡ old.ports)

-- the work is done between these two worlds, and ends so
abbrev pub Does : {D : Type 0} → (D → Outside StoreTold) → Work → World D → World D
    → Result (Unit {0}) Stop → Type 0
Does state (puts text) old new end =
    PutsAll old.out new.out text end × (new.left ≡ old.left) × NoFronts old new
Does {D} state (scripts s) old new end =
    (store store' : D) × (old.left ≡ Store store) × (new.left ≡ Store store') × NoFronts old new
    × Scripts state s store store' old.out new.out end
Does {D} state (loads seed n) old new end =
    (store store' : D) × (old.left ≡ Store store) × (new.left ≡ Store store') × NoFronts old new
    × Loads state seed n store store' old.out new.out end
Does {D} state (serves s) old new end =
    (store : D) × (old.left ≡ Store store) × Serves state s store old new end
