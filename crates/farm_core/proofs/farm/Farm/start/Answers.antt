-- The farm of the first parts begins.
use Rattle.std.proofs.Common.{None}
use Rattle.std.proofs.lemmas.Result.{IfOk-weaker}
use Rattle.farm_refinement.specs.Seen.{FarmSeen}
use Rattle.farm_core.specs.Begins.{Begins}
use Rattle.farm_core.specs.inner.Starts.{IsStarted}
use Rattle.farm_core.proofs.Starting.{begins}
use Rattle.farm_core.proofs.farm.Farm.start.Goals as goal

pub returns-clause-begins : goal.returns-clause-begins
returns-clause-begins g c =
    IfOk-weaker c.first_farm.result (IsStarted c.args.plan c.args.store) (Begins g.D.TileStore.state c.args.plan None c.args.store)
    (λ (farm : FarmSeen g.row.D.Denot) is. begins g.D.TileStore.state c.args.plan c.args.store farm c.requires (g.met.D.TileStore.counted c.args.store) is) c.first_farm.ensures.started
