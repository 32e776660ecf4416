use Rattle.std.proofs.Common.{sym, subst}
use Rattle.farm_refinement.specs.Seen.{FarmSeen}
use Rattle.farm_refinement.specs.Stands.{StandsFor}
use Rattle.farm_refinement.proofs.Starting.{beside_step}
use Rattle.farm_core.proofs.farm.Farm.put_beside.Goals as goal

pub returns-clause-stands : goal.returns-clause-stands
returns-clause-stands g c = λ told h s.
    beside_step g.D.TileStore.state told _ h c.args.path.now c.args.bytes.now c.put.new.self c.put.result c.requires c.put.ensures
    (subst (λ (f : FarmSeen g.row.D.Denot). StandsFor g.D.TileStore.state told f h) (sym c.self.view_is) s)
