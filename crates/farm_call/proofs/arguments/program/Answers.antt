use Rattle.std.proofs.Common.{refl}
use Rattle.exit_status.specs.declared.stops.Stop.TheVariants as stop
use Rattle.farm_call.proofs.WholeCall.{wordless}
use Rattle.farm_call.proofs.arguments.program.Goals as goal

pub returns-in-OutOfMemory : goal.returns-in-OutOfMemory
returns-in-OutOfMemory g c =
    wordless g.D.TileStore.state _ _ stop.NoMemory tt c.wordless.ensures.report refl refl c.wordless.ensures.left refl c.wordless.ensures.no_fronts

pub returns-in_default : goal.returns-in_default
returns-in_default g c =
    wordless g.D.TileStore.state _ _ stop.Words tt c.wordless-in_default.ensures.report refl refl c.wordless-in_default.ensures.left refl c.wordless-in_default.ensures.no_fronts
